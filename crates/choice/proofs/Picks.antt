-- What a test that picked a case tells.
-- Assumes nothing.
use mathlib.Core.Path.{◌≡◌, refl, sym, ◌∙◌, subst}
use mathlib.Core.List.{List, [], ◌∷◌, ◌++◌}
use lib.Dec.{T}
use mathlib.Core.Bool as bool
use mathlib.Core.Bool.{Bool, true, false}
use Prim.Native.Nat.{ℕ}
use Rattle.choice.specs.Pick.{pick, both, either, not}
use Rattle.choice.specs.Rules.{Rule, ◌⇒◌, first_or}

pub pick_cases : {A : Type 0} (P : A → Type 0) (b : Bool) (x y : A) → (b ≡ true → P x) → (b ≡ false → P y) → P (pick b x y)
pick_cases P true x y f g = f refl
pick_cases P false x y f g = g refl

-- what it says that none of the rules is broken
abbrev pub Kept : List Rule → Type 0
Kept [] = Unit {0}
Kept ((broken ⇒ n) ∷ rules) = (broken ≡ false) × Kept rules

-- a fact holds of what the rules give, if it holds of every refusal, and of the rest where no rule is broken
pub first_cases : {A : Type 0} (P : A → Type 0) (refused : ℕ → A) (rules : List Rule) (x : A) → ((n : ℕ) → P (refused n)) → (Kept rules → P x) → P (first_or refused rules x)
first_cases P refused [] x f g = g tt
first_cases P refused ((true ⇒ n) ∷ rules) x f g = f n
first_cases P refused ((false ⇒ n) ∷ rules) x f g = first_cases P refused rules x f (λ k. g (refl, k))

-- what holds of the number of each rule
abbrev pub Numbers : (ℕ → Type 0) → List Rule → Type 0
Numbers Q [] = Unit {0}
Numbers Q ((broken ⇒ n) ∷ rules) = Q n × Numbers Q rules

pub number_cases : {A : Type 0} (P : A → Type 0) (Q : ℕ → Type 0) (refused : ℕ → A) (rules : List Rule) (x : A) → Numbers Q rules → ((n : ℕ) → Q n → P (refused n)) → (Kept rules → P x) → P (first_or refused rules x)
number_cases P Q refused [] x h f g = g tt
number_cases P Q refused ((true ⇒ n) ∷ rules) x h f g = f n h.0
number_cases P Q refused ((false ⇒ n) ∷ rules) x h f g = number_cases P Q refused rules x h.1 f (λ k. g (refl, k))

pub numbers_both : (Q : ℕ → Type 0) (a b : List Rule) → Numbers Q a → Numbers Q b → Numbers Q (a ++ b)
numbers_both Q [] b f g = g
numbers_both Q ((broken ⇒ n) ∷ a) b f g = (f.0, numbers_both Q a b f.1 g)

-- where no rule is broken, what follows is given
pub first_kept : {A : Type 0} (refused : ℕ → A) (rules : List Rule) (x : A) → Kept rules → first_or refused rules x ≡ x
first_kept refused [] x k = refl
first_kept refused ((true ⇒ n) ∷ rules) x k = absurd (subst T k.0 tt)
first_kept refused ((false ⇒ n) ∷ rules) x k = first_kept refused rules x k.1

pub clash : {b : Bool} → b ≡ false → b ≡ true → ⊥
clash e h = subst T (sym h ∙ e) tt

-- the code's `!`
pub nots : (b : Bool) → bool.not b ≡ not b
nots true = refl
nots false = refl

pub not_true : (b : Bool) → not b ≡ true → b ≡ false
not_true true e = absurd (subst T (sym e) tt)
not_true false e = refl

pub not_false : (b : Bool) → not b ≡ false → b ≡ true
not_false true e = refl
not_false false e = sym e

pub both_true : (a b : Bool) → both a b ≡ true → (a ≡ true) × (b ≡ true)
both_true true b e = (refl, e)
both_true false b e = absurd (subst T (sym e) tt)

pub both_holds : (a b : Bool) → a ≡ true → b ≡ true → both a b ≡ true
both_holds true b e f = f
both_holds false b e f = e

-- the second of two is known
pub both_fails : (a : Bool) → both a false ≡ false
both_fails true = refl
both_fails false = refl

pub both_only : (a : Bool) → both a true ≡ a
both_only true = refl
both_only false = refl

pub both_swap : (a b c : Bool) → both a (both b c) ≡ both b (both a c)
both_swap true b c = refl
both_swap false b c = sym (both_fails b)

pub both_assoc : (a b c : Bool) → both a (both b c) ≡ both (both a b) c
both_assoc true b c = refl
both_assoc false b c = refl

-- both fail, and one of them holds
pub both_second : (a b : Bool) → both a b ≡ false → a ≡ true → b ≡ false
both_second true b e h = e
both_second false b e h = absurd (clash refl h)

pub both_first : (a b : Bool) → both a b ≡ false → b ≡ true → a ≡ false
both_first true b e h = absurd (clash e h)
both_first false b e h = refl

pub either_false : (a b : Bool) → either a b ≡ false → (a ≡ false) × (b ≡ false)
either_false true b e = absurd (clash e refl)
either_false false b e = (refl, e)
