use Rattle.rules.specs.Checks.{collides}
use Rattle.printing.proofs.Rest.{any_listed}
use Rattle.printing.proofs.session_print_broken.Goals as goal

pub returns : goal.returns
returns c =
    let films = c.films_of-films in
    simp (c.requires, ← films.ensures, ← c.if-is_empty.ensures, c.print_broken.ensures, c.any_collides-colliding.ensures, any_listed collides films.result.now, c.lacks_room-full.ensures)
