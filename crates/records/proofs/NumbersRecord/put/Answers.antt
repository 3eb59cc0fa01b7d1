use Rattle.rules.specs.Layout.{numbers_format}
use Rattle.rules.proofs.Steps.{numbers_steps}
use Rattle.records.proofs.NumbersRecord.put.Goals as goal

pub returns : goal.returns
unfolding numbers_format numbers_steps
returns c =
    let a = c.args in
    rw (numbers_steps.same a.self.now a.s.now a.at c.requires, c.put_number-3.ensures, c.put_number-2.ensures, c.put_number.ensures, c.put_bytes.ensures, c.put_byte.ensures)
