use native.Mathlib.Omega.{arith}
use Rattle.runs.proofs.Longer.{start_longer}
use Rattle.opening.proofs.Answers.{start_short}
use Rattle.opening.proofs.start.Goals as goal

pub returns-in-Some : goal.returns-in-Some
returns-in-Some c =
    let front = c.in-Some.ensures.cases in
    start_longer _ (λ i. omega (arith, c.slice_known-1.given i)) front.enough _ _ front.same _ _ _ _ c.start_records.ensures

pub returns-in-None : goal.returns-in-None
returns-in-None c = start_short _ _ c.in-None.ensures.cases
