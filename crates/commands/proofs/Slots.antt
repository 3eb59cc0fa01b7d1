-- Which of many numbers a number is, one by one: `search slots` finds the way that a return took.
-- Assumes nothing.
use Prim.Native.Nat.{ℕ}
use mathlib.Core.Path.{◌≡◌}
use lib.Dec.{eqb}
use borrow.Author.Tests.{eq-eqb, ne_eqb}
use Rattle.choice.specs.Pick.{pick}

module _ (r a b x y : ℕ) where
  pub this_one : a ≡ b → r ≡ x → r ≡ pick (eqb a b) x y
  this_one e h = rw (eq-eqb a b e) h

  pub a_later : (a ≡ b → ⊥) → r ≡ y → r ≡ pick (eqb a b) x y
  a_later e h = rw (ne_eqb a b e) h

pub ruleset slots = (this_one, a_later)
