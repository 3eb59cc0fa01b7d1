-- A list made from the numbers from one on.
-- Assumes nothing.
use Rattle.std.proofs.Common.{◌≡◌, ℕ, zero, suc, ◌+◌, ◌<◌, List, [], ◌∷◌, ◌++◌, map, length, take, set, sym, refl, ap, ◌∙◌, add-one, arith, take-suc-set}
use Rattle.rules.specs.Lists.{from}

module _ {A : Type 0} (f : ℕ → A) where
  made_next : (m count : ℕ) → map f (from m (suc count)) ≡ map f (from m count) ++ (f (m + count) ∷ [])
  unfolding from
  made_next m zero = let e : m ≡ m + 0 = omega arith in ap (λ (n : ℕ). f n ∷ []) e
  made_next m (suc count) =
      let e : m + 1 + count ≡ m + suc count = omega arith in
      ap (λ (rest : List A). f m ∷ rest) (made_next (m + 1) count ∙ ap (λ (n : ℕ). map f (from (m + 1) count) ++ (f n ∷ [])) e)

  pub made_none : [] ≡ map f (from 1 0)
  unfolding from
  made_none = refl

  -- one element more
  pub made_turn : (i : ℕ) (xs : List A) (x : A) → i < length xs → x ≡ f (i + 1) → take i xs ≡ map f (from 1 i) → take (i + 1) (set xs i x) ≡ map f (from 1 (i + 1))
  made_turn i xs x h e d =
      let s : i + 1 ≡ 1 + i = omega arith in
      rw (add-one i) (take-suc-set xs i x h ∙ (ap (λ (ys : List A). ys ++ (x ∷ [])) d ∙ (ap (λ (y : A). map f (from 1 i) ++ (y ∷ [])) (e ∙ ap f s) ∙ sym (made_next 1 i))))
