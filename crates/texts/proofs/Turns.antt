-- What one turn of each loop does.
-- Assumes nothing.
use Prim.Native.Nat.{ℕ, zero, suc, ◌+◌, ◌*◌, ◌-◌, ◌<◌, ◌≤◌}
use mathlib.Core.Path.{◌≡◌, refl, ap, ◌∙◌}
use mathlib.Core.Bool.{Bool, true, false}
use mathlib.Core.List.{List, [], ◌∷◌}
use native.Mathlib.Numerals.{add-one}
use native.Mathlib.Omega.{arith}
use lib.ListN.{length, get_or, take, drop, drop_of_length-le}
use lib.Seq.{drop-cons}
use borrow.Author.Tests.{eq-eqb, ne_eqb, le-leb, lt-leb, leb-true}
use lib.Dec.{eqb, leb}
use Rattle.std.specs.Prelude.{◌↔◌, IsTrue, EachIndex, slice_index}
use Rattle.std.specs.Cmp.{both_ways}
use Rattle.choice.specs.Pick.{pick, both, not}
use Rattle.choice.proofs.Picks.{pick_cases, both_true, clash, not_true}
use Rattle.uids.specs.Uids.{digits}
use Rattle.rules.specs.Lists.{every}
use Rattle.rules.specs.Values.{without_leading, unless_space, without_trailing, trimmed, without_plus, decimal_value, count_in, label_byte}
use Rattle.texts.specs.Counted.{counted}

-- Spaces in front: so many, and what comes next is none.

pub leading_told : (s : List ℕ) (n : ℕ) → n ≤ length s → ((k : ℕ) → k < n → get_or s k 0 ≡ 0x20) → (n < length s → get_or s n 0 ≡ 0x20 → ⊥) → without_leading s ≡ drop n s
unfolding without_leading
leading_told [] zero l each stop = refl
leading_told [] (suc n) l each stop = absurd (omega arith)
leading_told (c ∷ s) zero l each stop = rw (ne_eqb c 0x20 (stop (omega arith)))
leading_told (c ∷ s) (suc n) l each stop =
    rw (eq-eqb c 0x20 (each 0 (omega arith)))
    (leading_told s n (omega arith) (λ k h. each (suc k) (omega arith)) (λ h. stop (omega arith)))

-- Spaces at the end: all from a place on, and the one before it is none.

pub trailing_told : (s : List ℕ) (n : ℕ) → n ≤ length s → ((k : ℕ) → n ≤ k → k < length s → get_or s k 0 ≡ 0x20) → ((k : ℕ) → n ≡ k + 1 → get_or s k 0 ≡ 0x20 → ⊥) → without_trailing s ≡ take n s
unfolding without_trailing
trailing_told [] zero l each stop = refl
trailing_told [] (suc n) l each stop = absurd (omega arith)
trailing_told (c ∷ s) zero l each stop =
    ap (unless_space c) (trailing_told s zero (omega arith) (λ k g h. each (suc k) (omega arith) (omega arith)) (λ k e. absurd (omega (arith, e))))
    ∙ rw (eq-eqb c 0x20 (each 0 (omega arith) (omega arith)))
trailing_told (c ∷ s) (suc zero) l each stop =
    ap (unless_space c) (trailing_told s zero (omega arith) (λ k g h. each (suc k) (omega arith) (omega arith)) (λ k e. absurd (omega (arith, e))))
    ∙ rw (ne_eqb c 0x20 (stop 0 (omega arith)))
trailing_told (c ∷ []) (suc (suc n)) l each stop = absurd (omega arith)
trailing_told (c ∷ (d ∷ s)) (suc (suc n)) l each stop =
    ap (unless_space c)
    (trailing_told (d ∷ s) (suc n) (omega arith) (λ k g h. each (suc k) (omega arith) (omega arith)) (λ k e. stop (suc k) (omega (arith, e))))

-- A sign.

pub plus_none : (s : List ℕ) → length s ≡ 0 → s ≡ without_plus s
unfolding without_plus
plus_none [] h = refl
plus_none (c ∷ s) h = absurd (omega arith)

pub plus_off : (s : List ℕ) → (length s ≡ 0 → ⊥) → get_or s 0 0 ≡ 0x2B → drop 1 s ≡ without_plus s
unfolding without_plus
plus_off [] h e = absurd (h refl)
plus_off (c ∷ s) h e = rw (eq-eqb c 0x2B e)

pub plus_not : (s : List ℕ) → (get_or s 0 0 ≡ 0x2B → ⊥) → s ≡ without_plus s
unfolding without_plus
plus_not [] e = refl
plus_not (c ∷ s) e = rw (ne_eqb c 0x2B e)

-- Digits.

pub value_grows : (front : ℕ) (s : List ℕ) → front ≤ decimal_value front s
unfolding decimal_value
value_grows front [] = omega arith
value_grows front (c ∷ s) = let w = value_grows (10 * front + (c - 48)) s in omega arith

pub counted_over : (most front : ℕ) (s : List ℕ) → most < front → counted most front s ≡ 0
unfolding counted
counted_over most front s h =
    let w = value_grows front s in
    rw (lt-leb (decimal_value front s) most (omega arith))
    (pick_cases (λ b. pick b (decimal_value front s) 0 ≡ 0) (digits s) false false (λ _. refl) (λ _. refl))

module _ (most front : ℕ) (s : List ℕ) (i : ℕ) where
  pub counted_not : i < length s → ((48 ≤ get_or s i 0) × (get_or s i 0 ≤ 57) → ⊥) → counted most front (drop i s) ≡ 0
  unfolding counted digits
  counted_not h n = rw (drop-cons s i 0 h) (turn (both (leb 48 (get_or s i 0)) (leb (get_or s i 0) 57)) refl)
    where
      turn : (t : Bool) → both (leb 48 (get_or s i 0)) (leb (get_or s i 0) 57) ≡ t
          → pick (both (both t (digits (drop (suc i) s))) (leb (decimal_value front (get_or s i 0 ∷ drop (suc i) s)) most)) (decimal_value front (get_or s i 0 ∷ drop (suc i) s)) 0 ≡ 0
      turn true e =
          let d = both_true (leb 48 (get_or s i 0)) (leb (get_or s i 0) 57) e in
          absurd (n (leb-true 48 (get_or s i 0) d.0, leb-true (get_or s i 0) 57 d.1))
      turn false e = refl

  pub counted_turn : i < length s → 48 ≤ get_or s i 0 → get_or s i 0 ≤ 57 → counted most front (drop i s) ≡ counted most (10 * front + (get_or s i 0 - 48)) (drop (i + 1) s)
  unfolding counted digits decimal_value
  counted_turn h g l = rw (add-one i, drop-cons s i 0 h, le-leb 48 (get_or s i 0) g, le-leb (get_or s i 0) 57 l)

  pub counted_end : front ≤ most → length s ≤ i → counted most front (drop i s) ≡ front
  unfolding counted digits decimal_value
  counted_end g h = rw (drop_of_length-le s h, le-leb front most g)

-- Characters of a label.

abbrev Labels : List ℕ → Type 0
Labels s = EachIndex s (λ k. (0x20 ≤ slice_index s k) × (slice_index s k ≤ 0x7E) × (slice_index s k ≡ 0x5C → ⊥))

label_all : (s : List ℕ) → Labels s → every label_byte s ≡ true
unfolding every
label_all [] each = refl
label_all (c ∷ s) each =
    let d = each 0 (omega arith) in
    rw (le-leb 0x20 c d.0, le-leb c 0x7E d.1, ne_eqb c 0x5C d.2) (label_all s (λ k h. each (suc k) (omega arith)))

label_at : (s : List ℕ) → every label_byte s ≡ true → Labels s
unfolding every
label_at [] e k h = absurd (omega arith)
label_at (c ∷ s) e zero h =
    let d = both_true (leb 0x20 c) _ (both_true (label_byte c) (every label_byte s) e).0 in
    let f = both_true (leb c 0x7E) (not (eqb c 0x5C)) d.1 in
    (leb-true 0x20 c d.0, leb-true c 0x7E f.0, λ z. clash (not_true (eqb c 0x5C) f.1) (eq-eqb c 0x5C z))
label_at (c ∷ s) e (suc k) h = label_at s (both_true (label_byte c) (every label_byte s) e).1 k (omega arith)

pub label_each : (s : List ℕ) (r : Bool) → (IsTrue r ↔ Labels s) → r ≡ every label_byte s
label_each s r e = both_ways r (every label_byte s) (λ k. label_all s (e.0 k)) (λ k. e.1 (label_at s k))

-- A count, by what its text is.

module _ (most : ℕ) (s v : List ℕ) (e : v ≡ trimmed s) where
  pub count_long : 12 < length v → 0 ≡ count_in most s
  unfolding count_in
  count_long h = simp (← e, lt-leb (length v) 12 h)

  module _ (u : List ℕ) (f : u ≡ without_plus v) (h : length v ≤ 12) where
    pub count_none : length u ≡ 0 → 0 ≡ count_in most s
    unfolding count_in
    count_none z = simp (← e, ← f, le-leb (length v) 12 h, eq-eqb (length u) 0 z)

    pub count_some : (length u ≡ 0 → ⊥) → counted most 0 u ≡ count_in most s
    unfolding count_in counted
    count_some z = simp (← e, ← f, le-leb (length v) 12 h, ne_eqb (length u) 0 z)
