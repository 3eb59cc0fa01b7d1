use Rattle.rules.specs.Layout.{core_format}
use Rattle.rules.proofs.Sizes.{core_size_lem}
use Rattle.rules.proofs.Steps.{core_steps}
use Rattle.records.proofs.CoreRecord.put.Goals as goal

pub returns : goal.returns
unfolding core_format core_steps
returns c =
    let a = c.args in
    rw (core_steps.same a.self.now a.s.now a.at (rw core_size_lem c.requires), c.put-4.ensures, c.put-3.ensures, c.put-2.ensures, c.put_array.ensures, c.put.ensures)
