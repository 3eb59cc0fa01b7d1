use Rattle.rules.specs.Layout.{serial_format}
use Rattle.records.proofs.SerialRecord.read_at.Goals as goal

pub returns : goal.returns
unfolding serial_format
returns c = simp c.u32_at.ensures
