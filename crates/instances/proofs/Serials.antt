-- Made UIDs by their serials: the digits tell the serial, so that a UID is the made one of at most one serial, and a film's box is
-- found by its serial. Assumes nothing.
use Prim.Native.Nat.{ℕ, zero, suc, ◌+◌, ◌*◌, ◌-◌, ◌<◌, ◌≤◌, ◌/◌, ◌%◌}
use mathlib.Core.Path.{◌≡◌, refl, sym, ap, ◌∙◌}
use mathlib.Core.Bool.{Bool, true, false}
use mathlib.Core.List.{List, [], ◌∷◌, ◌++◌, map}
use mathlib.Core.Logic.{⊎_elim}
use native.Mathlib.Nat.{eq-or-lt_of_le}
use native.Mathlib.Numerals.{add-one}
use native.Mathlib.Omega.{arith}
use lib.Dec.{eqb, leb, ltb}
use lib.ListN.{length, drop, get_or, drop_of_length-le}
use lib.Seq.{drop-cons, drop-drop, drop-append_seam}
use borrow.Author.Tests.{lt-ltb, le-ltb, lt-leb, le-leb, eq-eqb, ne_eqb, eqb-true, ltb-true, ltb-false, leb-true, leb-false}
use Rattle.choice.specs.Pick.{pick, both}
use Rattle.choice.proofs.Picks.{clash, both_true}
use Rattle.octets.specs.Octets.{same}
use Rattle.octets.proofs.Same.{same_equal, same_length}
use Rattle.uids.specs.Uids.{decimal, made}
use Rattle.uids.proofs.Decimal.{decimal_all}
use Rattle.uids.proofs.Made.{made_length, made_apart}
use Rattle.rules.specs.declared.Film.{Film}
use Rattle.rules.specs.declared.Numbers.{Numbers}
use Rattle.rules.specs.Bounds.{none_left}
use Rattle.rules.specs.Lists.{place_of, from}
use Rattle.rules.specs.Records.{root_of, box_count, box_uids, box_named}
use Rattle.instances.specs.There.{SerialsFit, AllFit}
use Rattle.instances.specs.Serials.{told, MadeOf, box_serial}
use Rattle.instances.proofs.Places.{box_found, place_alike}

told_more : (before : ℕ) (a : List ℕ) (d : ℕ) → told before (a ++ (d ∷ [])) ≡ (10 * told before a + d % 16) % none_left
unfolding told
told_more before [] d = refl
told_more before (x ∷ a) d = told_more ((10 * before + x % 16) % none_left) a d

-- one digit more is read
module _ (s : List ℕ) (i v : ℕ) where
  pub told_turn : (d : ℕ) → i < length s → d ≡ get_or s i 0 → told 0 s ≡ told v (drop i s) → told 0 s ≡ told ((10 * v + d % 16) % none_left) (drop (i + 1) s)
  unfolding told
  told_turn d h e f = f ∙ rw (drop-cons s i 0 h, e, add-one i)

  pub told_end : length s ≤ i → told 0 s ≡ told v (drop i s) → v ≡ told 0 s
  unfolding told
  told_end h f = sym (f ∙ rw (drop_of_length-le s h))

digit_behind : (n : ℕ) → n < none_left → (10 * (n / 10) + (48 + n % 10) % 16) % none_left ≡ n
digit_behind n h =
    let d : (48 + n % 10) % 16 ≡ n % 10 = omega arith in
    let e : 10 * (n / 10) + n % 10 ≡ n = omega arith in
    rw (d, e) (omega arith)

told_none : told 0 [] ≡ 0
unfolding told
told_none = refl

told_decimal : (n : ℕ) → n < none_left → told 0 (decimal n) ≡ n
told_decimal n h = decimal_all (λ (m : ℕ) (digits : List ℕ). m < none_left → told 0 digits ≡ m) one more n (omega arith) h
  where
    one : (n : ℕ) → n < 10 → n < none_left → told 0 ((48 + n % 10) ∷ []) ≡ n
    one n h k = told_more 0 [] (48 + n % 10) ∙ rw told_none (omega arith)

    more : (n : ℕ) (tens : List ℕ) → 10 ≤ n → (n / 10 < none_left → told 0 tens ≡ n / 10) → n < none_left → told 0 (tens ++ ((48 + n % 10) ∷ [])) ≡ n
    more n tens h f k = told_more 0 tens (48 + n % 10) ∙ rw (f (omega arith)) (digit_behind n k)

digits_behind : (root : List ℕ) (n : ℕ) → drop (length root + 1) (made root n) ≡ decimal n
unfolding made
digits_behind root n = sym (drop-drop 1 (length root) (made root n)) ∙ ap (drop 1) (drop-append_seam root (46 ∷ decimal n))

module _ (root uid : List ℕ) where
  pub made_short : length uid ≤ length root → MadeOf root uid 0
  made_short h n p k = same_length uid (made root n) (λ e. absurd (omega (arith, e, made_length root n))) ∙ sym (ne_eqb n 0 (λ e. absurd (omega arith)))

  module _ (serial : ℕ) where
    pub made_so : serial < none_left → same uid (made root serial) ≡ true → MadeOf root uid serial
    made_so h e n p k = by (eqb n serial) refl
      where
        other : eqb n serial ≡ false → (t : Bool) → same uid (made root n) ≡ t → t ≡ false
        other d true g = absurd (clash d (eq-eqb n serial (made_apart root n serial k h (sym (same_equal uid (made root n) g) ∙ same_equal uid (made root serial) e))))
        other d false g = refl

        by : (t : Bool) → eqb n serial ≡ t → same uid (made root n) ≡ t
        by true d = ap (λ (m : ℕ). same uid (made root m)) (eqb-true n serial d) ∙ e
        by false d = other d (same uid (made root n)) refl

    pub made_never : serial ≡ told 0 (drop (length root + 1) uid) → same uid (made root serial) ≡ false → MadeOf root uid 0
    made_never d e n p k = none (same uid (made root n)) refl ∙ sym (ne_eqb n 0 (λ z. absurd (omega arith)))
      where
        its : uid ≡ made root n → serial ≡ n
        its g = d ∙ ap (λ (u : List ℕ). told 0 (drop (length root + 1) u)) g ∙ ap (told 0) (digits_behind root n) ∙ told_decimal n k

        none : (t : Bool) → same uid (made root n) ≡ t → same uid (made root n) ≡ false
        none true g = absurd (clash e (ap (λ (m : ℕ). same uid (made root m)) (its (same_equal uid (made root n) g)) ∙ g))
        none false g = g

-- where the UID of a serial stands among those made from a first one on
module _ (root uid : List ℕ) (serial : ℕ) (m : MadeOf root uid serial) where
  abbrev place_from : ℕ → ℕ → ℕ
  place_from first count = place_of (same uid) (map (made root) (from first count))

  turn : (first count : ℕ) → 0 < first → first < none_left → place_from first (suc count) ≡ pick (eqb first serial) 0 (suc (place_from (first + 1) count))
  unfolding place_of from
  turn first count p k = rw (m first p k)

  past : (first count : ℕ) → 0 < first → first < none_left → (first ≡ serial → ⊥) → place_from (first + 1) count ≡ count → place_from first (suc count) ≡ suc count
  past first count p k other e = turn first count p k ∙ rw (ne_eqb first serial other, e)

  place_below : (first count : ℕ) → serial < first → first + count ≤ none_left → place_from first count ≡ count
  unfolding place_of from
  place_below first zero h k = refl
  place_below first (suc count) h k = past first count (omega arith) (omega arith) (λ e. absurd (omega arith)) (place_below (first + 1) count (omega arith) (omega arith))

  place_above : (first count : ℕ) → 0 < first → first + count ≤ serial → first + count ≤ none_left → place_from first count ≡ count
  unfolding place_of from
  place_above first zero p h k = refl
  place_above first (suc count) p h k = past first count p (omega arith) (λ e. absurd (omega arith)) (place_above (first + 1) count (omega arith) (omega arith) (omega arith))

  place_within : (first count : ℕ) → 0 < first → first ≤ serial → serial - first < count → first + count ≤ none_left → place_from first count ≡ serial - first
  place_within first zero p h l k = absurd (omega arith)
  place_within first (suc count) p h l k =
      turn first count p (omega arith)
      ∙ ⊎_elim
      (λ (e : first ≡ serial). rw (eq-eqb first serial e) (omega arith))
      (λ (b : first < serial). rw (ne_eqb first serial (λ e. absurd (omega arith)), place_within (first + 1) count (omega arith) (omega arith) (omega arith) (omega arith)) (omega arith))
      (eq-or-lt_of_le {n = first} {m = serial} h)

-- a film's box, as the code tests it
module _ (f : Film) (serial first : ℕ) (told-first : first ≡ f.first.0) where
  pub box_below : serial < first → false ≡ box_serial serial f
  unfolding box_serial
  box_below h = rw (← told-first, lt-leb first serial h)

  pub box_within : first ≤ serial → (count : ℕ) → count ≡ box_count f.layout → ltb (serial - first) count ≡ box_serial serial f
  unfolding box_serial
  box_within h count e = rw (← told-first, le-leb first serial h, e)

module _ (n : Numbers) (uid : List ℕ) (serial : ℕ) (m : MadeOf (root_of n) uid serial) where
  module _ (f : Film) (fits : SerialsFit f) where
    -- the place of the box
    pub box_place : box_serial serial f ≡ true → place_of (same uid) (box_uids n f) ≡ serial - f.first.0
    unfolding box_serial box_uids
    box_place e =
        let t = both_true (leb f.first.0 serial) (ltb (serial - f.first.0) (box_count f.layout)) e in
        place_within (root_of n) uid serial m f.first.0 (box_count f.layout) fits.0 (leb-true _ _ t.0) (ltb-true _ _ t.1) fits.1

    abbrev place : ℕ
    place = place_of (same uid) (box_uids n f)

    counted : (low high : Bool) → leb f.first.0 serial ≡ low → ltb (serial - f.first.0) (box_count f.layout) ≡ high → ltb place (box_count f.layout) ≡ both low high
    unfolding box_uids
    counted false high l h = le-ltb place (box_count f.layout) (omega (arith, place_below (root_of n) uid serial m f.first.0 (box_count f.layout) (leb-false f.first.0 serial l) fits.1))
    counted true false l h =
        let a = leb-true f.first.0 serial l in
        let b = ltb-false (serial - f.first.0) (box_count f.layout) h in
        le-ltb place (box_count f.layout) (omega (arith, place_above (root_of n) uid serial m f.first.0 (box_count f.layout) fits.0 (omega arith) fits.1))
    counted true true l h =
        let a = leb-true f.first.0 serial l in
        let b = ltb-true (serial - f.first.0) (box_count f.layout) h in
        lt-ltb place (box_count f.layout) (omega (arith, place_within (root_of n) uid serial m f.first.0 (box_count f.layout) fits.0 a b fits.1))

    pub box_by_serial : box_named n uid f ≡ box_serial serial f
    unfolding box_serial
    box_by_serial = sym (box_found n uid f place (box_count f.layout) refl refl) ∙ counted (leb f.first.0 serial) (ltb (serial - f.first.0) (box_count f.layout)) refl refl

  pub film_by_serial : (films : List Film) → AllFit films → place_of (box_named n uid) films ≡ place_of (box_serial serial) films
  film_by_serial films fit = place_alike (box_named n uid) (box_serial serial) films (λ i d h. box_by_serial (get_or films i d) (fit i d h))
