-- A test of every element of a list, from its first to its last.
-- Assumes nothing.
use Prim.Native.Nat.{ℕ, ◌+◌, ◌<◌, ◌≤◌}
use mathlib.Core.Path.{◌≡◌, ◌∙◌}
use mathlib.Core.Bool.{Bool, true, false}
use mathlib.Core.List.{List}
use native.Mathlib.Numerals.{add-one}
use lib.ListN.{length, get_or, drop, drop_of_length-le}
use lib.Seq.{drop-cons}
use Rattle.choice.specs.Pick.{both}
use Rattle.choice.proofs.Picks.{both_fails, both_only}
use Rattle.rules.specs.Lists.{every}

module _ {A : Type 0} (test : A → Bool) (xs : List A) (d : A) (i : ℕ) where
  turn : i < length xs → every test (drop i xs) ≡ both (test (get_or xs i d)) (every test (drop (i + 1) xs))
  unfolding every
  turn h = rw (add-one i, drop-cons xs i d h)

  -- the element at i passes: the next ones
  every_on : i < length xs → test (get_or xs i d) ≡ true → every test (drop i xs) ≡ every test (drop (i + 1) xs)
  every_on h e = turn h ∙ rw e

  -- it does not
  every_not : i < length xs → test (get_or xs i d) ≡ false → every test (drop i xs) ≡ false
  every_not h e = turn h ∙ rw e

every_end : {A : Type 0} (test : A → Bool) (xs : List A) (i : ℕ) → length xs ≤ i → every test (drop i xs) ≡ true
unfolding every
every_end test xs i h = rw (drop_of_length-le xs h)

-- Where a flag says whether all passed so far.
module _ {A : Type 0} (test : A → Bool) (xs : List A) (d : A) (i : ℕ) (flag : Bool) where
  pub so_far_on : i < length xs → test (get_or xs i d) ≡ true → both flag (every test (drop i xs)) ≡ both flag (every test (drop (i + 1) xs))
  so_far_on h e = rw (every_on test xs d i h e)

  pub so_far_not : i < length xs → test (get_or xs i d) ≡ false → both flag (every test (drop i xs)) ≡ false
  so_far_not h e = rw (every_not test xs d i h e) (both_fails flag)

pub so_far_end : {A : Type 0} (test : A → Bool) (xs : List A) (i : ℕ) (flag : Bool) → length xs ≤ i → both flag (every test (drop i xs)) ≡ flag
so_far_end test xs i flag h = rw (every_end test xs i h) (both_only flag)
