use Rattle.rules.specs.Layout.{serial_format}
use Rattle.rules.proofs.Steps.{serial_steps}
use Rattle.records.proofs.SerialRecord.put.Goals as goal

pub returns : goal.returns
unfolding serial_format serial_steps
returns c =
    let a = c.args in
    rw (serial_steps.same a.self.now a.s.now a.at c.requires, c.put_number.ensures)
