use mathlib.Core.Path.{◌≡◌}
use lib.ListN.{take, drop}
use Rattle.choice.specs.Pick.{both}
use Rattle.fields.specs.Format.{array}
use Rattle.rules.specs.Bounds.{most_boxes}
use Rattle.rules.specs.Layout.{box_format}
use Rattle.rules.specs.Lists.{every}
use Rattle.rules.specs.Sound.{box_sound}
use Rattle.records.specs.Places.{numbers_in}
use Rattle.films.proofs.boxes_sound.Given as goal

abbrev pub invariant-loop-i : goal.invariant-loop-i
invariant-loop-i l =
    every (box_sound l.boxes (numbers_in l.b)) (take l.boxes ((array most_boxes box_format).read l.b l.p))
    ≡ both l.sound (every (box_sound l.boxes (numbers_in l.b)) (drop l.i (take l.boxes ((array most_boxes box_format).read l.b l.p))))
