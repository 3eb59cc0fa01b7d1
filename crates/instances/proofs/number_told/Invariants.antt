use Prim.Native.Nat.{◌<◌}
use mathlib.Core.Path.{◌≡◌}
use lib.ListN.{drop}
use Rattle.rules.specs.Bounds.{none_left}
use Rattle.instances.specs.Serials.{told}
use Rattle.instances.proofs.number_told.Given as goal

abbrev pub invariant-loop-d : goal.invariant-loop-d
invariant-loop-d l = (l.v < none_left) × (told 0 l.s ≡ told l.v (drop l.d-index l.s))
