use Prim.Native.Nat.{◌+◌, ◌*◌, ◌-◌, ◌≤◌}
use mathlib.Core.Path.{◌≡◌}
use lib.ListN.{length}
use Rattle.octets.specs.Octets.{laid}
use Rattle.responses.specs.Parts.{boxes_bytes}
use Rattle.responses.proofs.put_boxes.Given as goal

abbrev pub invariant-loop-i : goal.invariant-loop-i
invariant-loop-i l =
    (l.i ≤ l.count)
    × (length l.out ≡ length l.initial.out)
    × (l.p ≤ l.at + 98 * l.i)
    × (laid l.initial.out l.at (boxes_bytes l.syntax l.root l.first l.count) ≡ laid l.out l.p (boxes_bytes l.syntax l.root (l.first + l.i) (l.count - l.i)))
    × (l.at + length (boxes_bytes l.syntax l.root l.first l.count) ≡ l.p + length (boxes_bytes l.syntax l.root (l.first + l.i) (l.count - l.i)))
