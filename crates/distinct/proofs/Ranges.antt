-- What `all` over a range of places told of a list, where it tested each element and those behind it.
-- Assumes nothing.
use Prim.Native.Nat.{ℕ, zero, suc, ◌+◌, ◌-◌, ◌<◌, ◌≤◌}
use mathlib.Core.Path.{◌≡◌, refl, sym, ap, subst, ◌∙◌}
use mathlib.Core.Bool.{Bool, true, false}
use mathlib.Core.List.{List, [], ◌∷◌}
use native.Mathlib.Omega.{arith}
use denote.Param.Members.{Mut, Called}
use lib.ListN.{length, drop}
use Rattle.std.specs.Bool.{MatchBool}
use Rattle.std.specs.Iterator.{ChecksAll}
use Rattle.std.specs.List.{range_with_len, AllWithin, HoldsAt}
use Rattle.std.proofs.iter.Yields.{nat_range_steps}
use Rattle.std.proofs.lemmas.Iterator.{cases_from_all, YieldsList-from_range}
use Rattle.std.proofs.lemmas.List.FromFn.{length-range_with_len, get_or-range_with_len}
use Rattle.choice.specs.Pick.{both}
use Rattle.choice.proofs.Picks.{both_fails}
use Rattle.rules.specs.Lists.{every}

-- each number from one up to another passes, or one of them fails
abbrev pub AllTold : (ℕ → Bool) → ℕ → ℕ → Bool → Type 0
AllTold test low high r = MatchBool r ((k : ℕ) → low ≤ k → k < high → test k ≡ true) ((k : ℕ) × (low ≤ k) × (k < high) × (test k ≡ false))

module _ (test : ℕ → Bool) (low high : ℕ) where
  over_range : (r : Bool) → (let xs = range_with_len low (high - low) in
      MatchBool r (AllWithin (λ k. test k ≡ true) xs 0 (length xs)) ((k : ℕ) × (k < length xs) × HoldsAt (λ k. test k ≡ false) xs k)
      → AllTold test low high r)
  over_range true m =
      λ k l h.
      let there : k - low < high - low = omega arith in
      let at : low + (k - low) ≡ k = omega arith in
      subst (λ i. test i ≡ true) (get_or-range_with_len low (high - low) (k - low) 0 there ∙ at) (m (k - low) 0 (omega arith) (omega (arith, length-range_with_len low (high - low))))
  over_range false m =
      let there : m.0 < high - low = omega (arith, length-range_with_len low (high - low), m.1) in
      (low + m.0, omega arith, omega arith, subst (λ i. test i ≡ false) (get_or-range_with_len low (high - low) m.0 0 there) (m.2 0))

  -- by what the code's `all` ensures
  pub all_told : {F : Type 0} {g : Mut F (ℕ × Unit {0}) Bool} {u : _} (f : F) (r : Bool) → ChecksAll nat_range_steps g (record { start = low; end = high }) f r u
      → ((x : ℕ) (q : F) → Called g f (x, tt) true q → (q ≡ f) × (test x ≡ true)) → ((x : ℕ) (q : F) → Called g f (x, tt) false q → test x ≡ false) → AllTold test low high r
  all_told {u = u} f r ran passed failed =
      over_range r (cases_from_all u f r (λ k. test k ≡ true) (λ k. test k ≡ false) ran (YieldsList-from_range low high (high - low) refl refl) passed failed)

-- a test of lists that goes on from each element to those behind it
pub record Stepwise {A : Type 0} (passes : List A → Bool) (step : A → List A → Bool) : Type 0 where
  pub none : passes [] ≡ true
  pub more : (x : A) (xs : List A) → passes (x ∷ xs) ≡ both (step x xs) (passes xs)

pub each_lem : {A : Type 0} (test : A → Bool) → Stepwise (every test) (λ x xs. test x)
unfolding every
each_lem test = record { none = refl; more = λ x xs. refl }

-- of the elements of a list, by their places
module _ {A : Type 0} {passes : List A → Bool} {step : A → List A → Bool} (s : Stepwise passes step) (xs : List A) (n : ℕ) (item : ℕ → A) where
  module _ (next : (k : ℕ) → k < n → drop k xs ≡ item k ∷ drop (k + 1) xs) (end : (k : ℕ) → n ≤ k → drop k xs ≡ []) where
    turn : (k : ℕ) → k < n → passes (drop k xs) ≡ both (step (item k) (drop (k + 1) xs)) (passes (drop (k + 1) xs))
    turn k h = ap passes (next k h) ∙ s.more (item k) (drop (k + 1) xs)

    all_pass : (left i : ℕ) → left ≡ n - i → ((k : ℕ) → i ≤ k → k < n → step (item k) (drop (k + 1) xs) ≡ true) → passes (drop i xs) ≡ true
    all_pass zero i e f = ap passes (end i (omega arith)) ∙ s.none
    all_pass (suc left) i e f = turn i (omega arith) ∙ rw (f i (omega arith) (omega arith)) (all_pass left (i + 1) (omega arith) (λ k l h. f k (omega arith) h))

    one_fails : (before i k : ℕ) → k ≡ i + before → k < n → step (item k) (drop (k + 1) xs) ≡ false → passes (drop i xs) ≡ false
    one_fails zero i k e h f =
        let here : k ≡ i = omega arith in
        turn i (omega arith) ∙ rw (subst (λ j. step (item j) (drop (j + 1) xs) ≡ false) here f)
    one_fails (suc before) i k e h f = turn i (omega arith) ∙ rw (one_fails before (i + 1) k (omega arith) h f) (both_fails (step (item i) (drop (i + 1) xs)))

    pub passes_told : (i : ℕ) (r : Bool) → AllTold (λ k. step (item k) (drop (k + 1) xs)) i n r → r ≡ passes (drop i xs)
    passes_told i true t = sym (all_pass (n - i) i refl t)
    passes_told i false t = sym (one_fails (t.0 - i) i t.0 (omega (arith, t.1)) t.2 t.3)
