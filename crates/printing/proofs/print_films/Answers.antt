use Rattle.std.proofs.Common.{arith}
use Rattle.printing.proofs.Queued.{printed_none, printed_room, printed_turn}
use Rattle.printing.proofs.print_films.Goals as goal

pub loop-film-init : goal.loop-film-init
loop-film-init c = printed_none c.args.k.now c.requires.0

pub print_one-requires : goal.print_one-requires
print_one-requires c = let o = c.loop-film in
    printed_room c.args.k.now o.k c.args.films.now o.film-index c.loop-film-test.true (omega (arith, c.requires.1, c.loop-film-test.true)) o.invariant

pub loop-film-preserved : goal.loop-film-preserved
loop-film-preserved c = let o = c.loop-film in
    printed_turn c.args.k.now o.k c.print_one.new.k c.args.films.now o.film-index _ c.loop-film-test.true c.print_one.ensures o.invariant
