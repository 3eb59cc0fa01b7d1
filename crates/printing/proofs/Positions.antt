-- Boxes by their positions: the picture at one, and two filled boxes at one.
-- Assumes nothing.
use Rattle.std.proofs.Common.{◌≡◌, ℕ, ◌+◌, ◌<◌, ◌≤◌, Bool, true, false, eqb, List, [], ◌∷◌, length, get_or, drop, sym, refl, ap, ◌∙◌, eq-eqb, ne_eqb, eqb-true}
use borrow.Author.Tests.{eqb-false}
use Rattle.choice.specs.Pick.{pick, both, not}
use Rattle.rules.specs.declared.ImageBox.{ImageBox}
use Rattle.rules.specs.declared.Picture.{Picture}
use Rattle.rules.specs.Lists.{every, apart}
use Rattle.rules.specs.Records.{picture, filled}
use Rattle.rules.specs.Effects.{picture_on, filled_boxes}
use Rattle.rules.specs.Checks.{same_position}
use Rattle.printing.proofs.Rest.{rest_next, rest_none}

-- The picture at a position.

module _ (position : ℕ) (xs : List ImageBox) (i : ℕ) where
  pub picture_here : (d : ImageBox) → i < length xs → both (filled (get_or xs i d)) (eqb (get_or xs i d).position position) ≡ true → picture_on (drop i xs) position ≡ (get_or xs i d).picture
  unfolding picture_on
  picture_here d h e = ap (λ bs. picture_on bs position) (rest_next xs i d h) ∙ rw e

  pub picture_on_lem : (d : ImageBox) → i < length xs → both (filled (get_or xs i d)) (eqb (get_or xs i d).position position) ≡ false → picture_on (drop i xs) position ≡ picture_on (drop (i + 1) xs) position
  unfolding picture_on
  picture_on_lem d h e = ap (λ bs. picture_on bs position) (rest_next xs i d h) ∙ rw e

  pub picture_none : length xs ≤ i → picture_on (drop i xs) position ≡ picture 0
  unfolding picture_on
  picture_none h = ap (λ bs. picture_on bs position) (rest_none xs i h)

-- Two filled boxes at one position.

-- whether a box is filled, and one of others is at its position
abbrev pub repeated : ImageBox → List ImageBox → Bool
repeated b bs = both (filled b) (not (eqb (picture_on bs b.position).0 0))

not_not : (b : Bool) → not (not b) ≡ b
not_not true = refl
not_not false = refl

eqb_turned : (a b : ℕ) (t : Bool) → eqb a b ≡ t → eqb b a ≡ t
eqb_turned a b true e = eq-eqb b a (sym (eqb-true a b e))
eqb_turned a b false e = ne_eqb b a (λ h. eqb-false a b e (sym h))

-- whether no box of some is at a position
abbrev nowhere : ℕ → List ImageBox → Bool
nowhere position bs = every (λ (y : ImageBox). pick (eqb position y.position) false true) bs

nowhere_turn : (position : ℕ) (b : ImageBox) (bs : List ImageBox) (other : Picture) → nowhere position bs ≡ eqb other.0 0
    → (empty here : Bool) → eqb b.picture.0 0 ≡ empty → eqb b.position position ≡ here
    → nowhere position (pick (not empty) (b ∷ bs) bs) ≡ eqb (pick (both (not empty) here) b.picture other).0 0
unfolding every
nowhere_turn position b bs other h true here e f = h
nowhere_turn position b bs other h false true e f = rw (eqb_turned b.position position true f, e)
nowhere_turn position b bs other h false false e f = rw (eqb_turned b.position position false f) h

-- no filled box is at a position where no picture is
nowhere_filled : (position : ℕ) (bs : List ImageBox) → nowhere position (filled_boxes bs) ≡ eqb (picture_on bs position).0 0
unfolding every filled_boxes picture_on
nowhere_filled position [] = refl
nowhere_filled position (b ∷ bs) = nowhere_turn position b (filled_boxes bs) (picture_on bs position) (nowhere_filled position bs) (eqb b.picture.0 0) (eqb b.position position) refl refl

apart_turn : (b : ImageBox) (bs : List ImageBox) (t : Bool) → apart same_position (pick t (b ∷ bs) bs) ≡ both (not (both t (not (nowhere b.position bs)))) (apart same_position bs)
unfolding apart
apart_turn b bs true = rw (not_not (nowhere b.position bs))
apart_turn b bs false = refl

apart_filled : (b : ImageBox) (bs : List ImageBox) → apart same_position (filled_boxes (b ∷ bs)) ≡ both (not (repeated b bs)) (apart same_position (filled_boxes bs))
unfolding filled_boxes
apart_filled b bs = apart_turn b (filled_boxes bs) (filled b) ∙ rw (nowhere_filled b.position bs)

abbrev pub collide : List ImageBox → Bool
collide bs = not (apart same_position (filled_boxes bs))

module _ (xs : List ImageBox) (i : ℕ) where
  -- the next box is repeated
  pub collide_here : (d : ImageBox) → i < length xs → repeated (get_or xs i d) (drop (i + 1) xs) ≡ true → collide (drop i xs) ≡ true
  collide_here d h e = ap collide (rest_next xs i d h) ∙ rw (apart_filled (get_or xs i d) (drop (i + 1) xs), e)

  -- it is not
  pub collide_on : (d : ImageBox) → i < length xs → repeated (get_or xs i d) (drop (i + 1) xs) ≡ false → collide (drop i xs) ≡ collide (drop (i + 1) xs)
  collide_on d h e = ap collide (rest_next xs i d h) ∙ rw (apart_filled (get_or xs i d) (drop (i + 1) xs), e)

  pub collide_none : length xs ≤ i → collide (drop i xs) ≡ false
  unfolding apart filled_boxes
  collide_none h = ap collide (rest_none xs i h)
