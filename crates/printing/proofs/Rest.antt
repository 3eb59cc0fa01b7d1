-- The elements of a list from one place on; a test of any of them.
-- Assumes nothing.
use Rattle.std.proofs.Common.{◌≡◌, ℕ, ◌+◌, ◌-◌, ◌<◌, ◌≤◌, Bool, true, false, List, [], ◌∷◌, length, get_or, take, drop, refl, add-one, arith, drop_of_length-le, length-drop, take_all, drop-cons}
use Rattle.std.specs.Prelude.{◌||◌}
use Rattle.std.specs.List.{list_any}
use mathlib.Core.Bool as bool
use Rattle.choice.specs.Pick.{either, not}
use Rattle.rules.specs.Lists.{any}

module _ {A : Type 0} (xs : List A) (i : ℕ) where
  -- the next of them
  pub rest_next : (d : A) → i < length xs → drop i xs ≡ get_or xs i d ∷ drop (i + 1) xs
  rest_next d h = rw (add-one i, drop-cons xs i d h)

  -- all of them, by their count
  pub rest_all : take (length xs - i) (drop i xs) ≡ drop i xs
  rest_all = take_all (length xs - i) (drop i xs) (rw (length-drop) (omega arith))

  -- none is left
  pub rest_none : length xs ≤ i → drop i xs ≡ []
  rest_none h = drop_of_length-le xs h

either_or : (a b c : Bool) → b ≡ c → (a || b) ≡ either a c
either_or true b c e = refl
either_or false b c e = e

-- the test that an iterator makes of any element
pub any_listed : {A : Type 0} (test : A → Bool) (xs : List A) → list_any test xs ≡ any test xs
unfolding any
any_listed test [] = refl
any_listed test (x ∷ xs) = either_or (test x) (list_any test xs) (any test xs) (any_listed test xs)

pub not_same : (b : Bool) → bool.not b ≡ not b
not_same true = refl
not_same false = refl
