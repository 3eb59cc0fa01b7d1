use mathlib.Core.Path.{sym}
use native.Mathlib.Omega.{arith}
use Rattle.std.proofs.lemmas.Result.{err_from_is_err_and}
use Rattle.soundness.proofs.Refused.{not_done}
use Rattle.opening.proofs.Answers.{start_root, start_refused, start_done}
use Rattle.opening.proofs.start_records.Goals as goal

pub returns-in_err-start_refusal : goal.returns-in_err-start_refusal
returns-in_err-start_refusal c =
    let p = err_from_is_err_and c.from_residual.result c.from_residual.ensures.1 in
    rw (p.1, p.2) (start_refused _ _ (omega (arith, c.told-records)) _ c.in_err-start_refusal.ensures (not_done _))

pub started-requires : goal.started-requires
started-requires c =
    let a = c.args in
    start_root a.root.now a.serial a.picture (sym c.in_ok-start_refusal.ensures)

pub returns : goal.returns
returns c = rw (c.put_core.ensures, c.started.ensures) (start_done _ _ (omega (arith, c.told-records)) (sym c.in_ok-start_refusal.ensures))
