use Rattle.rules.specs.Layout.{entry_format}
use Rattle.rules.proofs.Sizes.{entry_size_lem}
use Rattle.rules.proofs.Steps.{entry_steps}
use Rattle.records.proofs.EntryRecord.put.Goals as goal

pub returns : goal.returns
unfolding entry_format entry_steps
returns c =
    let a = c.args in
    rw (entry_steps.same a.self.now a.s.now a.at (rw entry_size_lem c.requires), c.put.ensures, c.put_byte.ensures, c.put_number.ensures, c.put_array.ensures)
