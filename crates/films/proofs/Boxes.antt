-- A box by its bytes, and the boxes behind the film's.
-- Assumes nothing.
use Prim.Native.Nat.{ℕ, ◌+◌, ◌*◌, ◌-◌, ◌≤◌}
use mathlib.Core.Path.{◌≡◌, sym, ap, ◌∙◌}
use mathlib.Core.Bool.{Bool, true, false}
use mathlib.Core.List.{List}
use native.Mathlib.Omega.{arith}
use lib.Dec.{leb, ltb}
use lib.ListN.{length, get_or, take, drop}
use Rattle.choice.specs.Pick.{both}
use Rattle.choice.proofs.Picks.{both_only}
use Rattle.octets.specs.Octets.{number_at, part}
use Rattle.fields.specs.Format.{array}
use Rattle.rules.specs.Bounds.{most_boxes}
use Rattle.rules.specs.Layout.{box_size, box_format, picture_format}
use Rattle.rules.specs.Lists.{every}
use Rattle.rules.specs.Sound.{between, zeros, box_sound, box_blank}
use Rattle.records.specs.Places.{numbers_in}
use Rattle.records.proofs.Blank.{boxes_blank}

module _ (b : List ℕ) (p boxes next picture : ℕ) (n : next ≡ (numbers_in b).picture) (e : picture ≡ number_at 4 b (p + 1 + 1)) where
  box_tests : box_sound boxes (numbers_in b) (box_format.read b p) ≡ both (between 1 boxes (get_or b p 0)) (both (leb (get_or b (p + 1) 0) 1) (ltb picture next))
  unfolding box_format picture_format every
  box_tests = rw (e, n, both_only (ltb (number_at 4 b (p + 1 + 1)) (numbers_in b).picture))

  pub misplaced : between 1 boxes (get_or b p 0) ≡ false → false ≡ box_sound boxes (numbers_in b) (box_format.read b p)
  misplaced h = sym (box_tests ∙ rw h)

  pub box_told : {r : Bool} → between 1 boxes (get_or b p 0) ≡ true → r ≡ both (leb (get_or b (p + 1) 0) 1) (ltb picture next) → r ≡ box_sound boxes (numbers_in b) (box_format.read b p)
  box_told h t = t ∙ sym (box_tests ∙ rw h)

-- the others are zeros
pub others_blank : (b : List ℕ) (p k : ℕ) → k ≤ most_boxes → p + most_boxes * box_size ≤ length b
    → every box_blank (drop k ((array most_boxes box_format).read b p)) ≡ zeros (part b (p + k * box_size) (p + most_boxes * box_size))
others_blank b p k h l =
    let e : (most_boxes - k) * box_size ≡ p + most_boxes * box_size - (p + k * box_size) = omega arith in
    boxes_blank b p k h l ∙ ap (λ (m : ℕ). zeros (take m (drop (p + k * box_size) b))) e
