-- What one turn of each loop does, and what a test of the code tells.
-- Assumes nothing.
use Prim.Native.Nat.{ℕ, zero, suc, ◌+◌, ◌-◌, ◌<◌, ◌≤◌}
use mathlib.Core.Path.{◌≡◌, refl, sym}
use mathlib.Core.Bool.{Bool, true, false}
use mathlib.Core.List.{List, [], ◌∷◌, ◌++◌}
use native.Mathlib.Numerals.{add-one}
use native.Mathlib.Omega.{arith}
use lib.Dec.{leb}
use lib.ListN.{length, get_or, take, drop, length-drop, drop_of_length-le, get_or-eq_default}
use lib.Seq.{drop-cons, take-suc, get_or-drop}
use borrow.Author.Tests.{eq-eqb, ne_eqb, le-leb, leb-true}
use Rattle.std.specs.Prelude.{◌↔◌, IsTrue, EachIndex, slice_index}
use Rattle.std.specs.Cmp.{both_ways}
use Rattle.choice.specs.Pick.{both}
use Rattle.choice.proofs.Picks.{pick_cases, both_true}
use Rattle.octets.specs.Octets.{part, same}
use Rattle.uids.specs.Uids.{digits, component, components, begins_with}

-- each character is a digit
digits_all : (s : List ℕ) → EachIndex s (λ k. (48 ≤ slice_index s k) × (slice_index s k ≤ 57)) → digits s ≡ true
unfolding digits
digits_all [] each = refl
digits_all (c ∷ s) each =
    let d = each 0 (omega arith) in
    rw (le-leb 48 c d.0, le-leb c 57 d.1) (digits_all s (λ k h. each (suc k) (omega arith)))

digit_at : (s : List ℕ) → digits s ≡ true → EachIndex s (λ k. (48 ≤ slice_index s k) × (slice_index s k ≤ 57))
unfolding digits
digit_at [] e k h = absurd (omega arith)
digit_at (c ∷ s) e zero h =
    let d = both_true (leb 48 c) (leb c 57) (both_true (both (leb 48 c) (leb c 57)) (digits s) e).0 in
    (leb-true 48 c d.0, leb-true c 57 d.1)
digit_at (c ∷ s) e (suc k) h = digit_at s (both_true (both (leb 48 c) (leb c 57)) (digits s) e).1 k (omega arith)

pub digits_each : (s : List ℕ) (r : Bool) → (IsTrue r ↔ EachIndex s (λ k. (48 ≤ slice_index s k) × (slice_index s k ≤ 57))) → r ≡ digits s
digits_each s r e = both_ways r (digits s) (λ k. digits_all s (e.0 k)) (λ k. e.1 (digit_at s k))

part_more : (s : List ℕ) (from i : ℕ) → from ≤ i → i < length s → part s from i ++ (get_or s i 0 ∷ []) ≡ part s from (i + 1)
part_more s from i h k =
    let a : i + 1 - from ≡ suc (i - from) = omega arith in
    let b : from + (i - from) ≡ i = omega arith in
    sym (rw (a, take-suc (drop from s) (i - from) 0 (omega (arith, length-drop from s)), get_or-drop from s (i - from) 0, b))

part_none : (s : List ℕ) (i : ℕ) → part s i i ≡ []
part_none s i = let a : i - i ≡ 0 = omega arith in rw a

-- the component that began at `from` ends at a dot, and the next one begins behind it
pub components_dot : (s : List ℕ) (from i : ℕ) → i < length s → get_or s i 0 ≡ 46
    → components (part s from i) (drop i s) ≡ both (component (part s from i)) (components (part s (i + 1) (i + 1)) (drop (i + 1) s))
unfolding components
components_dot s from i h e = rw (part_none s (i + 1), drop-cons s i 0 h, eq-eqb (get_or s i 0) 46 e, add-one i)

-- or goes on
pub components_on : (s : List ℕ) (from i : ℕ) → from ≤ i → i < length s → (get_or s i 0 ≡ 46 → ⊥)
    → components (part s from i) (drop i s) ≡ components (part s from (i + 1)) (drop (i + 1) s)
unfolding components
components_on s from i h k n = rw (← part_more s from i h k, drop-cons s i 0 k, ne_eqb (get_or s i 0) 46 n, add-one i)

pub components_end : (s front : List ℕ) (i : ℕ) → length s ≤ i → components front (drop i s) ≡ component front
unfolding components
components_end s front i h = rw (drop_of_length-le s h)

-- no dot stands behind the end
pub too_short : (root uid : List ℕ) → length uid ≤ length root → begins_with root uid ≡ false
unfolding begins_with
too_short root uid h =
    rw (get_or-eq_default uid 0 h)
    (pick_cases (λ b. b ≡ false) (same root (take (length root) uid)) false false (λ e. refl) (λ e. refl))
