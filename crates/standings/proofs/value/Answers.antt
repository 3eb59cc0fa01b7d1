use mathlib.Core.Path.{ap}
use Rattle.rules.specs.Commands.{bytes_of}
use Rattle.standings.proofs.value.Goals as goal

pub returns : goal.returns
unfolding bytes_of
returns c = ap (bytes_of c.args.d.now) c.place-part.ensures
