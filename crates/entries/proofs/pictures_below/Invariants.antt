use mathlib.Core.Path.{◌≡◌}
use lib.Dec.{ltb}
use lib.ListN.{take, drop}
use Rattle.choice.specs.Pick.{both}
use Rattle.fields.specs.Format.{array}
use Rattle.rules.specs.declared.Picture.{Picture}
use Rattle.rules.specs.Bounds.{most_boxes}
use Rattle.rules.specs.Layout.{picture_format}
use Rattle.rules.specs.Lists.{every}
use Rattle.entries.proofs.pictures_below.Given as goal

abbrev pub invariant-loop-i : goal.invariant-loop-i
invariant-loop-i l =
    every (λ (x : Picture). ltb x.0 l.next) ((array most_boxes picture_format).read l.b l.p)
    ≡ both l.below (every (λ (x : Picture). ltb x.0 l.next) (drop l.i (take most_boxes ((array most_boxes picture_format).read l.b l.p))))
