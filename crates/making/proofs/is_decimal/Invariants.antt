use Prim.Native.Nat.{◌<◌}
use mathlib.Core.Path.{◌≡◌}
use Rattle.octets.specs.Octets.{same}
use Rattle.uids.specs.Uids.{decimal}
use Rattle.making.proofs.is_decimal.Given as goal

abbrev pub invariant-loop-i : goal.invariant-loop-i
invariant-loop-i l =
    (l.i-iterator.iter.count ≡ 0) × (l.rest < 4294967296) × (same l.s (decimal l.n) ≡ same l.i-iterator.iter.iter.rest.now (decimal l.rest))
