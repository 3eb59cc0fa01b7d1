use Rattle.rules.specs.Layout.{layout_format}
use Rattle.rules.proofs.Steps.{layout_steps}
use Rattle.records.proofs.LayoutRecord.put.Goals as goal

pub returns : goal.returns
unfolding layout_format layout_steps
returns c =
    let a = c.args in
    rw (layout_steps.same a.self.now a.s.now a.at c.requires, c.put_bytes.ensures, c.put_byte-2.ensures, c.put_byte.ensures)
