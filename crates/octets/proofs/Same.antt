-- Two lists of bytes are the same exactly where they are equal; they are compared from the last byte back, and part by part.
-- Assumes nothing.
use Prim.Native.Nat.{ℕ, suc, ◌-◌, ◌<◌, ◌≤◌}
use mathlib.Core.Path.{◌≡◌, refl, sym, ap, ◌∙◌}
use mathlib.Core.Bool.{Bool, true, false}
use mathlib.Core.List.{List, [], ◌∷◌, ◌++◌}
use native.Mathlib.Omega.{arith}
use lib.Dec.{eqb}
use lib.ListN.{length, get_or, take}
use lib.Seq.{take-suc}
use borrow.Author.Tests.{eqb-true, eq-eqb}
use Rattle.std.specs.Prelude.{◌↔◌, IsTrue, EachIndex, slice_index}
use Rattle.std.specs.Cmp.{both_ways}
use Rattle.std.proofs.lemmas.Grind.{same_number_lists}
use Rattle.choice.proofs.Picks.{both_true, both_fails, both_swap, both_assoc, clash}
use Rattle.choice.specs.Pick.{both}
use Rattle.octets.specs.Octets.{same}

pub same_equal : (a b : List ℕ) → same a b ≡ true → a ≡ b
unfolding same
same_equal [] [] e = refl
same_equal [] (y ∷ b) e = absurd (clash refl e)
same_equal (x ∷ a) [] e = absurd (clash refl e)
same_equal (x ∷ a) (y ∷ b) e =
    let t = both_true (eqb x y) (same a b) e in
    rw (eqb-true x y t.0, same_equal a b t.1)

-- two lists are compared from their last bytes back
pub same_last : (a b : List ℕ) (x y : ℕ) → same (a ++ (x ∷ [])) (b ++ (y ∷ [])) ≡ both (eqb x y) (same a b)
unfolding same
same_last [] [] x y = refl
same_last [] (z ∷ b) x y = rw (none b y, both_fails (eqb x z), both_fails (eqb x y))
  where
    none : (b : List ℕ) (y : ℕ) → same [] (b ++ (y ∷ [])) ≡ false
    none [] y = refl
    none (z ∷ b) y = refl
same_last (w ∷ a) [] x y = rw (none a x, both_fails (eqb w y), both_fails (eqb x y))
  where
    none : (a : List ℕ) (x : ℕ) → same (a ++ (x ∷ [])) [] ≡ false
    none [] x = refl
    none (w ∷ a) x = refl
same_last (w ∷ a) (z ∷ b) x y = rw (same_last a b x y) (both_swap (eqb w z) (eqb x y) (same a b))

pub same_back : (s b : List ℕ) (i y : ℕ) → 0 < i → i ≤ length s → same (take i s) (b ++ (y ∷ [])) ≡ both (eqb (get_or s (i - 1) 0) y) (same (take (i - 1) s) b)
same_back s b i y p h =
    let k : i ≡ suc (i - 1) = omega arith in
    ap (λ (n : ℕ). same (take n s) (b ++ (y ∷ []))) k ∙ rw (take-suc s (i - 1) 0 (omega arith)) (same_last (take (i - 1) s) b _ y)

-- front and rest are compared apart
pub same_parts : (a b c d : List ℕ) → length a ≡ length c → same (a ++ b) (c ++ d) ≡ both (same a c) (same b d)
unfolding same
same_parts [] b [] d e = refl
same_parts [] b (z ∷ c) d e = absurd (omega (arith, e))
same_parts (w ∷ a) b [] d e = absurd (omega (arith, e))
same_parts (w ∷ a) b (z ∷ c) d e = rw (same_parts a b c d (omega (arith, e))) (both_assoc (eqb w z) (same a c) (same b d))

pub same_self : (a : List ℕ) → same a a ≡ true
unfolding same
same_self [] = refl
same_self (x ∷ a) = rw (eq-eqb x x refl) (same_self a)

pub same_length : (s t : List ℕ) → (length s ≡ length t → ⊥) → same s t ≡ false
unfolding same
same_length [] [] n = absurd (n refl)
same_length [] (y ∷ t) n = refl
same_length (x ∷ s) [] n = refl
same_length (x ∷ s) (y ∷ t) n = rw (same_length s t (λ e. n (ap suc e))) (both_fails (eqb x y))

-- each byte is that at its place in the other
pub same_each : (s t : List ℕ) (r : Bool) → length s ≡ length t → (IsTrue r ↔ EachIndex s (λ k. slice_index s k ≡ slice_index t k)) → r ≡ same s t
same_each s t r n e =
    both_ways r (same s t)
    (λ k. ap (same s) (sym (same_number_lists s t n (e.0 k))) ∙ same_self s)
    (λ k. e.1 (λ i h. ap (λ u. get_or u i 0) (same_equal s t k)))
