use Prim.Native.Nat.{◌-◌, ◌≤◌}
use mathlib.Core.Path.{◌≡◌}
use Rattle.elements.specs.Find.{among, elements_from, find_at}
use Rattle.finding.proofs.find.Given as goal

abbrev pub invariant-loop-t : goal.invariant-loop-t
invariant-loop-t l =
    (l.p ≤ l.scope.inside.stop) × (find_at l.s l.scope l.tag ≡ among l.s l.scope.syntax l.scope.inside.stop l.tag (elements_from l.s l.scope (record { at = l.p; floor = l.floor })))

abbrev pub decreases-loop-t : goal.decreases-loop-t
decreases-loop-t l = l.scope.inside.stop - l.p
