use Rattle.std.proofs.Common.{◌≡◌, drop}
use Rattle.rules.specs.Effects.{picture_on}
use Rattle.printing.proofs.picture_on.Given as goal

abbrev pub invariant-loop-b : goal.invariant-loop-b
invariant-loop-b l = picture_on l.boxes l.position ≡ picture_on (drop l.b-index l.boxes) l.position
