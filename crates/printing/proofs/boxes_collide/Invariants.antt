use Rattle.std.proofs.Common.{◌≡◌, drop}
use Rattle.printing.proofs.Positions.{collide}
use Rattle.printing.proofs.boxes_collide.Given as goal

abbrev pub invariant-loop-i : goal.invariant-loop-i
invariant-loop-i l = collide l.boxes ≡ collide (drop l.i l.boxes)
