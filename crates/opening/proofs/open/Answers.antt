use native.Mathlib.Omega.{arith}
use Rattle.runs.proofs.Longer.{too_short, open_longer}
use Rattle.opening.proofs.Answers.{open_unread}
use Rattle.opening.proofs.open.Goals as goal

pub returns-in-Some : goal.returns-in-Some
returns-in-Some c =
    let front = c.in-Some.ensures.cases in
    open_longer _ (λ i. omega (arith, c.slice_known-1.given i)) front.enough _ _ front.same _ _ _ _ c.open_records.ensures

pub returns-in-None : goal.returns-in-None
returns-in-None c = open_unread _ _ _ (too_short _ c.in-None.ensures.cases) (λ e. omega (arith, e))
