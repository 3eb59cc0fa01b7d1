use Rattle.rules.specs.Records.{queued}
use Rattle.shelves.proofs.no_entries.Goals as goal

pub returns : goal.returns
unfolding queued
returns c = simp c.no_entry.ensures
