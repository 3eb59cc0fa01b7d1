use Rattle.rules.specs.Layout.{picture_format}
use Rattle.records.proofs.PictureRecord.read_at.Goals as goal

pub returns : goal.returns
unfolding picture_format
returns c = simp c.u32_at.ensures
