use Rattle.rules.specs.Layout.{layout_format}
use Rattle.records.proofs.LayoutRecord.read_at.Goals as goal

pub returns : goal.returns
unfolding layout_format
returns c = simp c.bytes_at-counts.ensures
