-- The lines and the boxes of a film, as they are tested in place.
use Rattle.std.specs.Prelude.{ℕ, Bool, List, eqb, ltb, take, drop}
use Rattle.choice.specs.Pick.{pick, both}
use Rattle.rules.specs.declared.ImageBox.{ImageBox}
use Rattle.rules.specs.declared.Numbers.{Numbers}
use Rattle.rules.specs.Lists.{every}
use Rattle.rules.specs.Sound.{between, zeros, box_sound, box_blank}

-- one of the first lines has boxes, the others have none
abbrev pub line_sound : ℕ → ℕ → ℕ → Bool
line_sound line lines boxes = pick (ltb line lines) (between 1 6 boxes) (eqb boxes 0)

abbrev pub lines_sound : ℕ → List ℕ → Bool
lines_sound lines counts = both (every (between 1 6) (take lines counts)) (zeros (drop lines counts))

-- the first so many boxes are sound, the others blank
abbrev pub boxes_fit : ℕ → Numbers → List ImageBox → Bool
boxes_fit count n boxes = both (every (box_sound count n) (take count boxes)) (every box_blank (drop count boxes))
