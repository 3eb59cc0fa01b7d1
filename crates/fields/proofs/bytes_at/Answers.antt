use Rattle.fields.proofs.Blocks.{copied_out}
use Rattle.fields.proofs.bytes_at.Goals as goal

pub returns : goal.returns
returns g c =
    let a = c.args in
    copied_out a.s.now c.copy_from_slice.new.self a.at g.row.N c.requires c.copy_from_slice.ensures.after
