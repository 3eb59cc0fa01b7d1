use Rattle.std.proofs.Common.{◌≡◌, take}
use Rattle.rules.specs.Effects.{printed}
use Rattle.printing.proofs.print_films.Given as goal

abbrev pub invariant-loop-film : goal.invariant-loop-film
invariant-loop-film l = l.k ≡ printed l.initial.k (take l.film-index l.films)
