-- A format's text, part by part, and the lines that it gives.
-- Assumes nothing.
use Prim.Native.Nat.{ℕ, zero, suc, ◌+◌, ◌-◌, ◌*◌, ◌<◌, ◌≤◌}
use mathlib.Core.Path.{◌≡◌, refl, sym, ap, ◌∙◌}
use mathlib.Core.Bool.{Bool, true, false}
use mathlib.Core.List.{List, [], ◌∷◌, ◌++◌}
use native.Mathlib.Omega.{arith}
use native.Mathlib.Numerals.{add-one}
use lib.Dec.{eqb, ltb, leb}
use lib.ListN.{length, get_or, take, drop, replicate, set, length-append, length-take, length-drop}
use lib.Seq.{append_snoc, set_at, take_all, take-suc}
use borrow.Author.Tests.{eq-eqb, ne_eqb, leb-true, eqb-true, ltb-true, ltb-false}
use Rattle.choice.specs.Pick.{pick, both, either, not}
use Rattle.choice.proofs.Picks.{both_true, both_fails, both_swap}
use Rattle.octets.specs.Octets.{same}
use Rattle.octets.proofs.Same.{same_equal}
use Rattle.rules.specs.Text.{chars}
use Rattle.rules.specs.Lists.{filled_to}
use Rattle.rules.specs.Values.{without_trailing, one_to_six, standard, listed, numbers_in, uneven, kind_in, counts_in}
use Rattle.rules.specs.Attributes.{layout_from}
use Rattle.rules.proofs.Formats.{listed_length}

-- STANDARD.

-- the tests, length first
pub standard_tests : (t : List ℕ) →
    standard t
    ≡ both (eqb (length t) 12)
    (both (same (take 9 t) (chars "STANDARD\\"))
    (both (one_to_six (get_or t 9 0)) (both (eqb (get_or t 10 0) 0x2C) (one_to_six (get_or t 11 0)))))
unfolding standard
standard_tests t = both_swap (same (take 9 t) (chars "STANDARD\\")) (eqb (length t) 12) _

-- what a layout's text has
pub standard_has : (t : List ℕ) → standard t ≡ true → (length t ≡ 12) × ((48 < get_or t 9 0) × (get_or t 9 0 ≤ 54)) × ((48 < get_or t 11 0) × (get_or t 11 0 ≤ 54))
unfolding standard
standard_has t e =
    let a = (both_true (same (take 9 t) (chars "STANDARD\\")) _ e).1 in
    let b = both_true (eqb (length t) 12) _ a in
    let d = both_true (one_to_six (get_or t 9 0)) _ b.1 in
    let f = both_true (leb 49 (get_or t 9 0)) (leb (get_or t 9 0) 54) d.0 in
    let g = (both_true (eqb (get_or t 10 0) 0x2C) (one_to_six (get_or t 11 0)) d.1).1 in
    let h = both_true (leb 49 (get_or t 11 0)) (leb (get_or t 11 0) 54) g in
    let i = leb-true 49 (get_or t 9 0) f.0 in
    let j = leb-true 49 (get_or t 11 0) h.0 in
    (eqb-true (length t) 12 b.0, (omega arith, leb-true (get_or t 9 0) 54 f.1), (omega arith, leb-true (get_or t 11 0) 54 h.1))

-- Numbers with a comma between two.

pub listed_none : (s : List ℕ) → length s ≡ 0 → false ≡ listed s
unfolding listed
listed_none [] h = refl
listed_none (d ∷ s) h = absurd (omega (arith, h))

pub listed_last : (s : List ℕ) → length s ≡ 1 → one_to_six (get_or s 0 0) ≡ listed s
unfolding listed
listed_last [] h = absurd (omega (arith, h))
listed_last (d ∷ []) h = refl
listed_last (d ∷ (c ∷ s)) h = absurd (omega (arith, h))

pub listed_on : (s : List ℕ) → 2 ≤ length s → get_or s 1 0 ≡ 0x2C → both (one_to_six (get_or s 0 0)) (listed (drop 2 s)) ≡ listed s
unfolding listed
listed_on [] h e = absurd (omega arith)
listed_on (d ∷ []) h e = absurd (omega arith)
listed_on (d ∷ (c ∷ s)) h e = rw (eq-eqb c 0x2C e)

pub listed_apart : (s : List ℕ) → 2 ≤ length s → (get_or s 1 0 ≡ 0x2C → ⊥) → false ≡ listed s
unfolding listed
listed_apart [] h n = absurd (omega arith)
listed_apart (d ∷ []) h n = absurd (omega arith)
listed_apart (d ∷ (c ∷ s)) h n = rw (ne_eqb c 0x2C n) (sym (both_fails (one_to_six d)))

-- ROW and COL.

abbrev begins : List ℕ → Bool
begins t = either (same (take 4 t) (chars "ROW\\")) (same (take 4 t) (chars "COL\\"))

some_kind : (row col : Bool) → either row col ≡ not (eqb (pick row 1 (pick col 2 0)) 0)
some_kind true col = refl
some_kind false true = refl
some_kind false false = refl

-- the tests: one of the words, and what follows it
pub uneven_tests : (t : List ℕ) → uneven t ≡ both (not (eqb (kind_in t) 0)) (both (leb (length t) 15) (listed (drop 4 t)))
unfolding uneven kind_in
uneven_tests t = ap (λ (k : Bool). both k (both (leb (length t) 15) (listed (drop 4 t)))) (some_kind (same (take 4 t) (chars "ROW\\")) (same (take 4 t) (chars "COL\\")))

-- so there is a list, of few numbers
pub uneven_has : (t : List ℕ) → uneven t ≡ true → (listed (drop 4 t) ≡ true) × (4 < length t) × (length t ≤ 15)
unfolding uneven
uneven_has t e =
    let a = (both_true (begins t) _ e).1 in
    let b = both_true (leb (length t) 15) (listed (drop 4 t)) a in
    (b.1, omega (arith, listed_length (drop 4 t) b.1, length-drop 4 t), leb-true (length t) 15 b.0)

-- each number is a digit, two places after the one before
pub number_at : (s : List ℕ) (i : ℕ) → listed s ≡ true → 2 * i < length s → (49 ≤ get_or s (2 * i) 0) × (get_or (numbers_in s) i 0 ≡ get_or s (2 * i) 0 - 48)
unfolding listed numbers_in
number_at [] zero e h = absurd (omega arith)
number_at [] (suc i) e h = absurd (omega arith)
number_at (d ∷ []) zero e h = (leb-true 49 d (both_true (leb 49 d) (leb d 54) e).0, refl)
number_at (d ∷ []) (suc i) e h = absurd (omega arith)
number_at (d ∷ (c ∷ ds)) zero e h = (leb-true 49 d (both_true (leb 49 d) (leb d 54) (both_true (one_to_six d) _ e).0).0, refl)
number_at (d ∷ (c ∷ ds)) (suc i) e h =
    let more = (both_true (eqb c 0x2C) (listed ds) (both_true (one_to_six d) _ e).1).1 in
    let n : 2 * suc i ≡ suc (suc (2 * i)) = omega arith in
    rw n (number_at ds i more (omega arith))

-- Lines filled one by one, the others blank.

module _ (ys : List ℕ) (i : ℕ) where
  pub lines_turn : (x : ℕ) → i < length ys → length ys ≤ 6 → x ≡ get_or ys i 0 → set (filled_to 6 0 (take i ys)) i x ≡ filled_to 6 0 (take (i + 1) ys)
  lines_turn x h l e =
      let xs = take i ys in
      let n = length-take i ys in
      let k : length xs ≡ i = omega arith in
      let z : 6 - length xs ≡ suc (6 - (i + 1)) = omega arith in
      let one = length-append xs (x ∷ []) in
      let last : xs ++ (x ∷ []) ≡ take (i + 1) ys = rw (e, add-one i) (sym (take-suc ys i 0 h)) in
      let same-zeros : 6 - (i + 1) ≡ 6 - length (xs ++ (x ∷ [])) = omega arith in
      ap (λ m. set (xs ++ replicate m 0) i x) z
      ∙ (set_at xs 0 (replicate (6 - (i + 1)) 0) x i k
      ∙ (sym (append_snoc xs x (replicate (6 - (i + 1)) 0))
      ∙ (ap (λ m. (xs ++ (x ∷ [])) ++ replicate m 0) same-zeros
      ∙ ap (filled_to 6 0) last)))

  pub lines_done : length ys ≤ i → filled_to 6 0 (take i ys) ≡ filled_to 6 0 ys
  lines_done h = rw (take_all i ys h)

-- What a format gives.

module _ (s t : List ℕ) (e : t ≡ without_trailing s) where
  pub standard_counts : standard t ≡ true → counts_in s ≡ replicate (get_or t 11 0 - 48) (get_or t 9 0 - 48)
  unfolding counts_in
  standard_counts h = rw (← e, h)

  module _ (h : standard t ≡ false) where
    pub uneven_counts : uneven t ≡ true → counts_in s ≡ numbers_in (drop 4 t)
    unfolding counts_in
    uneven_counts k = rw (← e, h, k)

    pub no_counts : uneven t ≡ false → counts_in s ≡ []
    unfolding counts_in
    no_counts k = rw (← e, h, k)

pub layout_told : (v : List ℕ) {kind lines : ℕ} {counts xs : List ℕ} → kind ≡ kind_in v → counts_in v ≡ xs → lines ≡ length xs → counts ≡ filled_to 6 0 xs
    → record { kind = kind; lines = lines; counts = counts } ≡ layout_from (kind_in v) (counts_in v)
layout_told v k e n h = rw (k, h, n, e)

-- Which format it is.

-- a text of fewer characters begins with no word of four
short_by : (s word : List ℕ) (b : Bool) → length word ≡ 4 → same (take 4 s) word ≡ b → length s < 4 → b ≡ false
short_by s word true l e h = absurd (omega (arith, ap length (same_equal _ _ e), length-take 4 s, l, h))
short_by s word false l e h = refl

module _ (s : List ℕ) where
  kind_short : length s < 4 → 0 ≡ kind_in s
  unfolding chars kind_in
  kind_short h = rw (short_by s (chars "ROW\\") _ refl refl h, short_by s (chars "COL\\") _ refl refl h)

  -- so a text with one of the words has four
  pub kind_long : (kind_in s ≡ 0 → ⊥) → 4 ≤ length s
  kind_long n = turn (ltb (length s) 4) refl
    where
      turn : (t : Bool) → ltb (length s) 4 ≡ t → 4 ≤ length s
      turn true e = absurd (n (sym (kind_short (ltb-true _ _ e))))
      turn false e = ltb-false _ _ e
