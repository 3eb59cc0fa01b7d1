use Rattle.rules.specs.Layout.{box_format}
use Rattle.records.proofs.ImageBoxRecord.read_at.Goals as goal

pub returns : goal.returns
unfolding box_format
returns c = simp c.read_at-picture.ensures
