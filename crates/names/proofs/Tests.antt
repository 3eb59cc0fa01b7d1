-- Tests of a list, one by one: `search tests` finds the way that a return took. Where there are too many for one search,
-- the first ones are passed by name, `first_passes _ _ _ _ (search tests) (..)`.
-- Assumes nothing.
use Prim.Native.Nat.{ℕ, ◌≤◌}
use mathlib.Core.Path.{◌≡◌, refl, sym, ◌∙◌}
use mathlib.Core.Bool.{Bool, true, false}
use mathlib.Core.List.{List, [], ◌∷◌}
use lib.Dec.{leb}
use borrow.Author.Tests.{lt-ltb, le-ltb, le-leb, lt-leb, eq-eqb, ne_eqb}
use Rattle.choice.specs.Pick.{both}
use Rattle.choice.proofs.Picks.{both_only}
use Rattle.rules.specs.Lists.{every}

module _ {A : Type 0} (test : A → Bool) (x : A) (xs : List A) where
  pub first_fails : test x ≡ false → false ≡ every test (x ∷ xs)
  unfolding every
  first_fails e = rw e

  pub first_passes : (r : Bool) → test x ≡ true → r ≡ every test xs → r ≡ every test (x ∷ xs)
  unfolding every
  first_passes r e f = rw e f

  -- the same of what a function told
  pub first_failed : (r : Bool) → r ≡ false → test x ≡ false → r ≡ every test (x ∷ xs)
  first_failed r d e = d ∙ first_fails e

pub last_told : {A : Type 0} (test : A → Bool) (x : A) (r : Bool) → r ≡ test x → r ≡ every test (x ∷ [])
unfolding every
last_told test x r e = e ∙ sym (both_only (test x))

pub none_left : {A : Type 0} (test : A → Bool) → true ≡ every test []
unfolding every
none_left test = refl

-- what a function told
module _ (told test : Bool) (e : told ≡ test) where
  pub told_not : told ≡ false → test ≡ false
  told_not h = sym e ∙ h

  pub told_is : told ≡ true → test ≡ true
  told_is h = sym e ∙ h

-- the code's `&&`: where the first passed, the value is the second's; where it did not, the first's
module _ {told a : Bool} (b : Bool) {value : Bool} (e : told ≡ a) where
  pub and_passed : told ≡ true → value ≡ b → value ≡ both a b
  and_passed h v = v ∙ rw (sym e ∙ h)

  pub and_failed : told ≡ false → value ≡ told → value ≡ both a b
  and_failed h v = v ∙ h ∙ rw (sym e ∙ h)

-- a number that a function told
module _ (a told b : ℕ) (e : told ≡ b) where
  pub told_most : a ≤ told → leb a b ≡ true
  told_most h = rw (← e) (le-leb a told h)

pub ruleset tests = (first_passes, first_fails, last_told, none_left, told_is, told_not, le-leb, lt-leb, lt-ltb, le-ltb, eq-eqb, ne_eqb)
