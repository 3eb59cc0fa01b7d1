use native.Mathlib.Omega.{arith}
use Rattle.creating.proofs.film_serials.Goals as goal

pub returns : goal.returns
returns c = (rw (c.own_serials.ensures.0, c.box_count.ensures.0), omega (arith, c.own_serials.ensures.1, c.box_count.ensures.1))
