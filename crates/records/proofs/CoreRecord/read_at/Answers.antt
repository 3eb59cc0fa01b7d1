use Rattle.rules.specs.Layout.{core_format}
use Rattle.rules.proofs.Sizes.{numbers_size_lem, sessions_size, shelf_size_lem, queue_size_lem}
use Rattle.records.proofs.CoreRecord.read_at.Goals as goal

pub returns : goal.returns
unfolding core_format
returns c = simp (numbers_size_lem, sessions_size, shelf_size_lem, queue_size_lem, c.read_at-opened.ensures, c.read_at-queue.ensures, c.read_at-shelf.ensures, c.array_at-sessions.ensures, c.read_at-numbers.ensures)
