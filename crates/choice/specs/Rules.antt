-- Rows of rules: the first that is broken gives the number.
use Rattle.std.specs.Prelude.{ℕ, Bool, true, List, [], ◌∷◌, eqb, Result, Ok, Err}
use Rattle.choice.specs.Pick.{pick, both, not}

-- a rule: the test that breaks it, and the number of its refusal
infix 30 ◌⇒◌
pub data Rule : Type 0 where
  ◌⇒◌ : Bool → ℕ → Rule

-- what the number of the first broken rule gives, or else what is given where none is broken
abbrev pub first_or : {A : Type 0} → (ℕ → A) → List Rule → A → A
first_or refused [] kept = kept
first_or refused ((broken ⇒ n) ∷ rules) kept = pick broken (refused n) (first_or refused rules kept)

-- the number of the first broken rule, 0 where none is broken
abbrev pub first_broken : List Rule → ℕ
first_broken rules = first_or (λ n. n) rules 0

-- no rule has the number 0, so that 0 says that none is broken
abbrev pub numbered : List Rule → Bool
numbered [] = true
numbered ((broken ⇒ n) ∷ rules) = both (not (eqb n 0)) (numbered rules)

-- the number that a test of rules comes to: that of the broken rule which it found, 0 where it found none
abbrev pub number_by : {A E : Type 0} → (E → ℕ) → Result A E → ℕ
number_by number (Ok x) = 0
number_by number (Err e) = number e
