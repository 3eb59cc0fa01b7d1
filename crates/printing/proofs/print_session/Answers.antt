use Rattle.std.proofs.Common.{length, sym, ap, ◌∙◌, arith}
use Rattle.rules.specs.Effects.{printed}
use Rattle.printing.proofs.print_session.Goals as goal

pub print_films-requires : goal.print_films-requires
print_films-requires c = (c.requires.1, omega (arith, c.requires.2, ap length c.films_of.ensures, ap length c.requires.0))

pub returns : goal.returns
returns c = c.print_films.ensures ∙ ap (printed c.args.k.now) (c.films_of.ensures ∙ sym c.requires.0)
