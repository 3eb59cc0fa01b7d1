use Rattle.rules.specs.Layout.{shelf_format}
use Rattle.rules.proofs.Sizes.{shelf_size_lem}
use Rattle.rules.proofs.Steps.{shelf_steps}
use Rattle.records.proofs.ShelfRecord.put.Goals as goal

pub returns : goal.returns
unfolding shelf_format shelf_steps
returns c =
    let a = c.args in
    rw (shelf_steps.same a.self.now a.s.now a.at (rw shelf_size_lem c.requires), c.put_array.ensures, c.put_byte.ensures)
