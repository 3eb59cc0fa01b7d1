use mathlib.Core.Path.{sym}
use Rattle.std.proofs.lemmas.Result.{err_from_is_err_and}
use Rattle.records.specs.Places.{core_in}
use Rattle.soundness.proofs.Refused.{not_done}
use Rattle.opening.proofs.Answers.{open_unread, open_refused, open_done, open_fits}
use Rattle.opening.proofs.open_records.Goals as goal

pub returns-in_err-refusal : goal.returns-in_err-refusal
returns-in_err-refusal c =
    let p = err_from_is_err_and c.from_residual.result c.from_residual.ensures.1 in
    rw (p.1, p.2) (open_unread _ _ _ c.in_err-refusal.ensures (not_done _))

pub returns-in_err-open_refusal : goal.returns-in_err-open_refusal
returns-in_err-open_refusal c =
    let p = err_from_is_err_and c.from_residual-in_err-open_refusal.result c.from_residual-in_err-open_refusal.ensures.1 in
    rw (p.1, p.2) (open_refused _ (sym c.in_ok-refusal.ensures) _ _ c.in_err-open_refusal.ensures (not_done _))

pub put_open-requires : goal.put_open-requires
put_open-requires c =
    let fits = open_fits (core_in c.args.records.now) _ _ _ (sym c.in_ok-open_refusal.ensures) in
    (fits.0, fits.1, fits.2)

pub returns : goal.returns
returns c = rw c.put_open.ensures (open_done _ (sym c.in_ok-refusal.ensures) _ (sym c.in_ok-open_refusal.ensures))
