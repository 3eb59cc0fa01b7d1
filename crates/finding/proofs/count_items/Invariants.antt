use Prim.Native.Nat.{◌+◌, ◌-◌, ◌≤◌}
use mathlib.Core.Path.{◌≡◌}
use lib.ListN.{length}
use Rattle.elements.specs.Find.{items_of}
use Rattle.finding.proofs.count_items.Given as goal

abbrev pub invariant-loop-q : goal.invariant-loop-q
invariant-loop-q l =
    (l.p ≤ l.scope.inside.stop) × (l.count ≤ l.p) × (l.count + length (items_of l.s l.scope l.p) ≡ length (items_of l.s l.scope l.scope.inside.from))

abbrev pub decreases-loop-q : goal.decreases-loop-q
decreases-loop-q l = l.scope.inside.stop - l.p
