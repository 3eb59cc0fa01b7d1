use Rattle.names.proofs.Tests.{first_failed, tests}
use Rattle.entries.proofs.Queue.{entry_told}
use Rattle.entries.proofs.entry_sound.Goals as goal

pub returns-then-not-pictures_below : goal.returns-then-not-pictures_below
returns-then-not-pictures_below c = entry_told c.args.b.now c.args.p c.args.next c.requires.1 (search tests depth 6)

pub returns-then-copies_allowed : goal.returns-then-copies_allowed
returns-then-copies_allowed c = entry_told c.args.b.now c.args.p c.args.next c.requires.1 (search tests depth 6)

pub returns-else-copies_allowed : goal.returns-else-copies_allowed
returns-else-copies_allowed c = entry_told c.args.b.now c.args.p c.args.next c.requires.1 (search (tests, first_failed) depth 6)
