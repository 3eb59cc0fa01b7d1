use Rattle.rules.specs.Layout.{picture_format}
use Rattle.rules.proofs.Steps.{picture_steps}
use Rattle.records.proofs.PictureRecord.put.Goals as goal

pub returns : goal.returns
unfolding picture_format picture_steps
returns c =
    let a = c.args in
    rw (picture_steps.same a.self.now a.s.now a.at c.requires, c.put_number.ensures)
