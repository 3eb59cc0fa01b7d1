use mathlib.Core.Path.{sym}
use Rattle.std.proofs.lemmas.Result.{err_from_is_err_and}
use Rattle.soundness.proofs.Refused.{not_done}
use Rattle.opening.proofs.Answers.{close_unread, close_refused, close_done}
use Rattle.opening.proofs.close_records.Goals as goal

pub returns-in_err-refusal : goal.returns-in_err-refusal
returns-in_err-refusal c =
    let p = err_from_is_err_and c.from_residual.result c.from_residual.ensures.1 in
    rw (p.1, p.2) (close_unread _ _ c.in_err-refusal.ensures (not_done _))

pub returns-then-records-eq0 : goal.returns-then-records-eq0
returns-then-records-eq0 c = close_refused _ (sym c.in_ok-refusal.ensures) c.if-records-eq0.true

pub returns : goal.returns
returns c = rw c.put_closed.ensures (close_done _ (sym c.in_ok-refusal.ensures) c.if-records-eq0.false)
