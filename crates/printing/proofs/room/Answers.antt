use Rattle.rules.specs.Records.{entries_of}
use Rattle.printing.proofs.room.Goals as goal

pub returns : goal.returns
unfolding entries_of
returns c = simp (c.saturating_sub.ensures, c.front-waiting.ensures, c.from.ensures)
