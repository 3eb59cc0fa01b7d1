use Rattle.rules.specs.Records.{shelved}
use Rattle.shelves.proofs.no_films.Goals as goal

pub returns : goal.returns
unfolding shelved
returns c = simp c.no_film.ensures
