use Rattle.rules.specs.Effects.{entry_of}
use Rattle.printing.proofs.entry_of.Goals as goal

pub returns : goal.returns
unfolding entry_of
returns c = simp (c.from.ensures, c.copies_at.ensures, c.pictures_of.ensures, c.boxes_of.ensures)
