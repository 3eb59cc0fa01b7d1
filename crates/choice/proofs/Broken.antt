-- Rows of rules by the number of the first that is broken.
-- Assumes nothing.
use mathlib.Core.Path.{◌≡◌, refl}
use mathlib.Core.Bool.{true, false}
use mathlib.Core.List.{List, [], ◌∷◌, ◌++◌}
use Prim.Native.Nat.{ℕ}
use lib.Dec.{T, eqb}
use borrow.Author.Tests.{eq-eqb, ne_eqb}
use Rattle.choice.specs.Pick.{pick, not}
use Rattle.choice.specs.Rules.{Rule, ◌⇒◌, first_or, first_broken, numbered}
use Rattle.choice.proofs.Picks.{Kept, both_true, both_holds, not_true, clash}

-- what the rules give follows from the number alone
pub first_by_number : {A : Type 0} (refused : ℕ → A) (rules : List Rule) (kept : A) → numbered rules ≡ true
    → first_or refused rules kept ≡ pick (eqb (first_broken rules) 0) kept (refused (first_broken rules))
first_by_number refused [] kept h = refl
first_by_number refused ((true ⇒ n) ∷ rules) kept h = rw (not_true (eqb n 0) (both_true (not (eqb n 0)) (numbered rules) h).0)
first_by_number refused ((false ⇒ n) ∷ rules) kept h = first_by_number refused rules kept (both_true (not (eqb n 0)) (numbered rules) h).1

-- the two ways of it: the number of a broken rule, and none
module _ {A : Type 0} (refused : ℕ → A) (rules : List Rule) (kept : A) (h : numbered rules ≡ true) where
  pub first_refused : (n : ℕ) → n ≡ first_broken rules → (n ≡ 0 → ⊥) → refused n ≡ first_or refused rules kept
  first_refused n e f = rw (first_by_number refused rules kept h, ← e, ne_eqb n 0 f)

  pub first_unbroken : first_broken rules ≡ 0 → kept ≡ first_or refused rules kept
  first_unbroken e = rw (first_by_number refused rules kept h, e)

-- where no rule is broken, each is kept
pub none_broken : (rules : List Rule) → numbered rules ≡ true → first_broken rules ≡ 0 → Kept rules
none_broken [] h e = tt
none_broken ((true ⇒ n) ∷ rules) h e = absurd (clash (not_true (eqb n 0) (both_true (not (eqb n 0)) (numbered rules) h).0) (eq-eqb n 0 e))
none_broken ((false ⇒ n) ∷ rules) h e = (refl, none_broken rules (both_true (not (eqb n 0)) (numbered rules) h).1 e)

-- some rules, and then others
pub broken_append : (rules others : List Rule) → numbered rules ≡ true
    → first_broken (rules ++ others) ≡ pick (eqb (first_broken rules) 0) (first_broken others) (first_broken rules)
broken_append [] others h = refl
broken_append ((true ⇒ n) ∷ rules) others h = rw (not_true (eqb n 0) (both_true (not (eqb n 0)) (numbered rules) h).0)
broken_append ((false ⇒ n) ∷ rules) others h = broken_append rules others (both_true (not (eqb n 0)) (numbered rules) h).1
