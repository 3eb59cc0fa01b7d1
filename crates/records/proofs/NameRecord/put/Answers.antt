use Rattle.rules.specs.Layout.{name_format}
use Rattle.rules.proofs.Sizes.{name_size_lem}
use Rattle.rules.proofs.Steps.{name_steps}
use Rattle.records.proofs.NameRecord.put.Goals as goal

pub returns : goal.returns
unfolding name_format name_steps
returns c =
    let a = c.args in
    rw (name_steps.same a.self.now a.s.now a.at (rw name_size_lem c.requires), c.put_bytes.ensures, c.put_byte.ensures, c.put.ensures)
