use mathlib.Core.Path.{refl}
use borrow.Author.Tests.{eqb-false}
use Rattle.records.specs.Places.{core_in}
use Rattle.verdicts.proofs.Plans.{status_some}
use Rattle.answering.proofs.General.{uids_in_parts, general_broken, data_read, data_stopped}
use Rattle.answering.proofs.decided.Goals as goal

pub general_broken-requires : goal.general_broken-requires
general_broken-requires c =
    uids_in_parts c.args.c.now c.args.request.operation c.requires.1

pub returns-in-Err : goal.returns-in-Err
returns-in-Err c =
    let k = core_in c.args.b.now in
    let told = c.failed.ensures k in
    (general_broken k c.args.c.now _ _ c.args.request _ _ c.in-Err.ensures (eqb-false _ 0 (status_some c.in-Err.failure)) told.0, told.1)

pub returns-in-Ok-reading : goal.returns-in-Ok-reading
returns-in-Ok-reading c =
    let k = core_in c.args.b.now in
    (data_read k c.args.c.now _ _ c.args.request _ _ c.in-Ok.ensures refl _ c.syntax_in.ensures _ c.in-Ok-reading.ensures refl c.planned.ensures.0, c.planned.ensures.1)

pub returns-in-Err-reading : goal.returns-in-Err-reading
returns-in-Err-reading c =
    let k = core_in c.args.b.now in
    let failed = c.failed-in-Err-reading.ensures k in
    (data_stopped k c.args.c.now _ _ c.args.request _ _ c.in-Ok.ensures refl _ c.syntax_in.ensures _ c.in-Err-reading.ensures refl failed.0, failed.1)
