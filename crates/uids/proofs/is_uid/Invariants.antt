use Prim.Native.Nat.{◌≤◌}
use mathlib.Core.Path.{◌≡◌}
use mathlib.Core.List.{[]}
use lib.ListN.{drop}
use Rattle.octets.specs.Octets.{part}
use Rattle.uids.specs.Uids.{components}
use Rattle.uids.proofs.is_uid.Given as goal

abbrev pub invariant-loop-i : goal.invariant-loop-i
invariant-loop-i l = (l.from ≤ l.i) × (components [] l.s ≡ components (part l.s l.from l.i) (drop l.i l.s))
