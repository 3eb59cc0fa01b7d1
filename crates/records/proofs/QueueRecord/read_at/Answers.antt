use Rattle.rules.specs.Layout.{queue_format}
use Rattle.records.proofs.QueueRecord.read_at.Goals as goal

pub returns : goal.returns
unfolding queue_format
returns c = simp c.array_at-entries.ensures
