use native.Mathlib.Omega.{arith}
use Rattle.runs.proofs.Longer.{too_short, close_longer}
use Rattle.opening.proofs.Answers.{close_unread}
use Rattle.opening.proofs.close.Goals as goal

pub returns-in-Some : goal.returns-in-Some
returns-in-Some c =
    let front = c.in-Some.ensures.cases in
    close_longer _ (λ i. omega (arith, c.slice_known-1.given i)) front.enough _ _ front.same _ c.close_records.ensures

pub returns-in-None : goal.returns-in-None
returns-in-None c = close_unread _ _ (too_short _ c.in-None.ensures.cases) (λ e. omega (arith, e))
