use Rattle.rules.specs.Layout.{box_format}
use Rattle.rules.proofs.Sizes.{box_size_lem}
use Rattle.rules.proofs.Steps.{box_steps}
use Rattle.records.proofs.ImageBoxRecord.put.Goals as goal

pub returns : goal.returns
unfolding box_format box_steps
returns c =
    let a = c.args in
    rw (box_steps.same a.self.now a.s.now a.at (rw box_size_lem c.requires), c.put.ensures, c.put_byte-2.ensures, c.put_byte.ensures)
