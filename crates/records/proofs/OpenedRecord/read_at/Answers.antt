use Rattle.rules.specs.Layout.{opened_format}
use Rattle.records.proofs.OpenedRecord.read_at.Goals as goal

pub returns : goal.returns
unfolding opened_format
returns c = simp c.u32_at-room.ensures
