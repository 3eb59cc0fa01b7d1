use Rattle.rules.specs.Records.{films_of}
use Rattle.printing.proofs.films_of.Goals as goal

pub returns : goal.returns
unfolding films_of
returns c = simp (c.front.ensures, c.from.ensures)
