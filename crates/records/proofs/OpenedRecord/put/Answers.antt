use Rattle.rules.specs.Layout.{opened_format}
use Rattle.rules.proofs.Steps.{opened_steps}
use Rattle.records.proofs.OpenedRecord.put.Goals as goal

pub returns : goal.returns
unfolding opened_format opened_steps
returns c =
    let a = c.args in
    rw (opened_steps.same a.self.now a.s.now a.at c.requires, c.put_number.ensures, c.put_byte-3.ensures, c.put_byte-2.ensures, c.put_byte.ensures)
