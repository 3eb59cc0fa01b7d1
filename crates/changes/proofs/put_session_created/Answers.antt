use mathlib.Core.Path.{◌∙◌}
use Rattle.rules.specs.Records.{with_numbers, serials_used}
use Rattle.records.specs.Places.{core_in}
use Rattle.changes.proofs.Spots.{session_written}
use Rattle.records.proofs.Whole.{whole}
use Rattle.changes.proofs.put_session_created.Goals as goal

pub returns : goal.returns
returns c =
    let a = c.args in
    let k = core_in a.b.now in
    c.put.ensures
    ∙ session_written a.b.now _ (with_numbers (serials_used a.serials k.numbers) k) (whole _ c.told-b) c.put_serials_used.ensures a.session.now
