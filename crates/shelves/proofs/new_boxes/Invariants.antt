use mathlib.Core.Path.{◌≡◌}
use mathlib.Core.List.{map}
use Rattle.rules.specs.Bounds.{most_boxes}
use Rattle.rules.specs.Lists.{filled_to, from}
use Rattle.rules.specs.Records.{no_box}
use Rattle.rules.specs.Effects.{new_box}
use Rattle.shelves.proofs.new_boxes.Given as goal

abbrev pub invariant-loop-i : goal.invariant-loop-i
invariant-loop-i l = l.boxes ≡ filled_to most_boxes no_box (map new_box (from 1 l.i))
