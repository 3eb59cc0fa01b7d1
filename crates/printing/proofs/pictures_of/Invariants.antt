use Rattle.std.proofs.Common.{◌≡◌, map, length, take}
use Rattle.rules.specs.Lists.{from}
use Rattle.rules.specs.Effects.{picture_on}
use Rattle.printing.proofs.pictures_of.Given as goal

abbrev pub invariant-loop-i : goal.invariant-loop-i
invariant-loop-i l = (length l.pictures ≡ 36) × (take l.i l.pictures ≡ map (picture_on l.boxes) (from 1 l.i))
