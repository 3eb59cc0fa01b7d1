use Prim.Native.Nat.{◌≤◌}
use mathlib.Core.Path.{◌≡◌}
use lib.ListN.{drop}
use Rattle.texts.specs.Counted.{counted}
use Rattle.texts.proofs.digits_count.Given as goal

abbrev pub invariant-loop-c : goal.invariant-loop-c
invariant-loop-c l = (l.v ≤ l.most) × (counted l.most 0 l.s ≡ counted l.most l.v (drop l.c-index l.s))
