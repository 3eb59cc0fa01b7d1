use mathlib.Core.Path.{sym, ap, ◌∙◌}
use native.Mathlib.Omega.{arith}
use lib.ListN.{length}
use Rattle.std.proofs.lemmas.Result.{err_from_is_err_and}
use Rattle.octets.specs.Octets.{laid, Bytes}
use Rattle.rules.specs.Calls.{taken}
use Rattle.soundness.proofs.Refused.{not_done}
use Rattle.taking.proofs.Answers.{take_unread, take_refused, take_done}
use Rattle.taking.proofs.Entry.{tidy, oldest_asked, left_asked, taken_bytes}
use Rattle.taking.proofs.take_records.Goals as goal

pub returns-in_err-refusal : goal.returns-in_err-refusal
returns-in_err-refusal c =
    let p = err_from_is_err_and c.from_residual.result c.from_residual.ensures.1 in
    rw (p.1, p.2) (take_unread _ _ _ c.in_err-refusal.ensures (not_done _))

pub take_refusal-requires : goal.take_refusal-requires
take_refusal-requires c =
    let bytes : Bytes c.args.records.now = c.fits-records in
    tidy c.args.records.now bytes (sym c.in_ok-refusal.ensures)

pub returns-in_err-take_refusal : goal.returns-in_err-take_refusal
returns-in_err-take_refusal c =
    let p = err_from_is_err_and c.from_residual-in_err-take_refusal.result c.from_residual-in_err-take_refusal.ensures.1 in
    rw (p.1, p.2) (take_refused _ _ (sym c.in_ok-refusal.ensures) _ c.in_err-take_refusal.ensures (not_done _))

pub put_oldest-requires : goal.put_oldest-requires
put_oldest-requires c =
    let bytes : Bytes c.args.records.now = c.fits-records in
    oldest_asked _ bytes (sym c.in_ok-refusal.ensures) (length c.args.entry.now) (sym c.in_ok-take_refusal.ensures)

pub drop_oldest-requires : goal.drop_oldest-requires
drop_oldest-requires c =
    let bytes : Bytes c.args.records.now = c.fits-records in
    left_asked _ bytes (sym c.in_ok-refusal.ensures) (length c.args.entry.now) (sym c.in_ok-take_refusal.ensures)

pub returns : goal.returns
unfolding taken
returns c =
    let bytes : Bytes c.args.records.now = c.fits-records in
    let accepted = sym c.in_ok-refusal.ensures in
    let unbroken = sym c.in_ok-take_refusal.ensures in
    take_done c.args.records.now _ accepted unbroken _ _ c.drop_oldest.ensures
    (c.put_oldest.ensures ∙ ap (laid _ 0) (taken_bytes c.args.records.now bytes accepted (length c.args.entry.now) unbroken))
