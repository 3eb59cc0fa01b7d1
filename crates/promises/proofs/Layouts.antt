-- The layout of a film that is created, and its boxes.
-- Assumes nothing.
use Prim.Native.Nat.{ℕ, zero, suc, ◌+◌, ◌*◌, ◌-◌, ◌≤◌}
use mathlib.Core.Path.{◌≡◌, refl}
use mathlib.Core.Bool.{Bool, true, false}
use mathlib.Core.List.{List, [], ◌∷◌, map}
use native.Mathlib.Omega.{arith}
use lib.Dec.{eqb, leb}
use lib.ListN.{length, get_or, take, drop, replicate, length-take, length-drop, length-replicate}
use lib.Seq.{take-append_seam, drop-append_seam}
use borrow.Author.Tests.{eqb-true, eqb-false, leb-true, lt-ltb}
use Rattle.choice.specs.Pick.{pick, either}
use Rattle.choice.proofs.Picks.{both_true, both_holds}
use Rattle.octets.specs.Octets.{same}
use Rattle.rules.specs.declared.Layout.{Layout}
use Rattle.rules.specs.declared.Numbers.{Numbers}
use Rattle.rules.specs.Bounds.{most_boxes}
use Rattle.rules.specs.Text.{chars}
use Rattle.rules.specs.Lists.{every, from, sum}
use Rattle.rules.specs.Values.{without_trailing, one_to_six, standard, listed, numbers_in, uneven, kind_standard, kind_row, kind_col, kind_in, counts_in}
use Rattle.rules.specs.Records.{box_count}
use Rattle.rules.specs.Attributes.{Listing, value_of, layout_from, layout_in}
use Rattle.rules.specs.Effects.{new_box}
use Rattle.rules.specs.Sound.{between, layout_sound, box_sound}
use Rattle.rules.proofs.Formats.{listed_length}
use Rattle.promises.proofs.ListLaws.{all_true, all_holds, every_parts, every_replicate}
use Rattle.promises.proofs.Facts.{between_true, between_holds, box_sound_lem}

-- 1 to 6 lines of 1 to 6 boxes each
pub record Lines (counts : List ℕ) : Type 0 where
  pub some : 1 ≤ length counts
  pub few : length counts ≤ 6
  pub each : every (between 1 6) counts ≡ true

digit_sound : (c : ℕ) → one_to_six c ≡ true → between 1 6 (c - 48) ≡ true
digit_sound c e =
    let b = both_true (leb 49 c) (leb c 54) e in
    let x = leb-true 49 c b.0 in
    let y = leb-true c 54 b.1 in
    between_holds 1 6 (c - 48) (omega arith) (omega arith)

standard_lines : (t : List ℕ) → standard t ≡ true → Lines (replicate (get_or t 11 0 - 48) (get_or t 9 0 - 48))
unfolding standard
standard_lines t e =
    let a = both_true (same (take 9 t) (chars "STANDARD\\")) _ e in
    let b = both_true (eqb (length t) 12) _ a.1 in
    let c = both_true (one_to_six (get_or t 9 0)) _ b.1 in
    let d = both_true (eqb (get_or t 10 0) 0x2C) (one_to_six (get_or t 11 0)) c.1 in
    let rows = between_true 1 6 (get_or t 11 0 - 48) (digit_sound (get_or t 11 0) d.1) in
    let n = length-replicate (get_or t 11 0 - 48) (get_or t 9 0 - 48) in
    record {
      some = omega (arith, rows.0);
      few = omega (arith, rows.1);
      each = every_replicate (between 1 6) (get_or t 11 0 - 48) (get_or t 9 0 - 48) (digit_sound (get_or t 9 0) c.0);
    }

listed_each : (t : List ℕ) → listed t ≡ true → every (between 1 6) (numbers_in t) ≡ true
unfolding listed numbers_in every
listed_each [] e = refl
listed_each (d ∷ []) e = both_holds (between 1 6 (d - 48)) true (digit_sound d e) refl
listed_each (d ∷ (c ∷ ds)) e =
    let a = both_true (one_to_six d) _ e in
    let b = both_true (eqb c 0x2C) (listed ds) a.1 in
    both_holds (between 1 6 (d - 48)) (every (between 1 6) (numbers_in ds)) (digit_sound d a.0) (listed_each ds b.1)

uneven_lines : (t : List ℕ) → uneven t ≡ true → Lines (numbers_in (drop 4 t))
unfolding uneven
uneven_lines t e =
    let a = both_true (either (same (take 4 t) (chars "ROW\\")) (same (take 4 t) (chars "COL\\"))) _ e in
    let b = both_true (leb (length t) 15) (listed (drop 4 t)) a.1 in
    let most = leb-true (length t) 15 b.0 in
    let n = listed_length (drop 4 t) b.1 in
    let m = length-drop 4 t in
    record { some = omega arith; few = omega arith; each = listed_each (drop 4 t) b.1 }

lines_picked : (b c : Bool) (xs ys : List ℕ) → (b ≡ true → Lines xs) → (c ≡ true → Lines ys) → (length (pick b xs (pick c ys [])) ≡ 0 → ⊥) → Lines (pick b xs (pick c ys []))
lines_picked true c xs ys f g h = f refl
lines_picked false true xs ys f g h = g refl
lines_picked false false xs ys f g h = absurd (h refl)

-- a format that gives lines gives as many as may be, of as many boxes
pub counts_lines : (v : List ℕ) → (length (counts_in v) ≡ 0 → ⊥) → Lines (counts_in v)
unfolding counts_in
counts_lines v h =
    let t = without_trailing v in
    lines_picked (standard t) (uneven t) _ _ (standard_lines t) (uneven_lines t) h

one_of_three : (row column : Bool) → leb (pick row kind_row (pick column kind_col kind_standard)) kind_col ≡ true
one_of_three true column = refl
one_of_three false true = refl
one_of_three false false = refl

-- whatever a text says, it is of one of three kinds
pub kind_sound : (v : List ℕ) → leb (kind_in v) kind_col ≡ true
unfolding kind_in
kind_sound v = one_of_three (same (take 4 v) (chars "ROW\\")) (same (take 4 v) (chars "COL\\"))

pub layout_sound_lem : (kind : ℕ) (counts : List ℕ) → leb kind kind_col ≡ true → Lines counts → layout_sound (layout_from kind counts) ≡ true
unfolding layout_sound
layout_sound_lem kind counts few g =
    let z : List ℕ = replicate (6 - length counts) 0 in
    all_holds _ (
      few,
      (
        between_holds 1 6 (length counts) g.some g.few,
        (
          rw (take-append_seam counts z) g.each,
          (rw (drop-append_seam counts z) (every_replicate (λ (b : ℕ). eqb b 0) (6 - length counts) 0 refl), tt),
        ),
      ),
    )

-- How many lines, and how many boxes.

few_lines : (counts : List ℕ) (none : Bool) → eqb (length counts) 0 ≡ none → ((length counts ≡ 0 → ⊥) → Lines counts) → length counts ≤ 6
few_lines counts true e g = let z = eqb-true (length counts) 0 e in omega arith
few_lines counts false e g = (g (eqb-false (length counts) 0 e)).few

-- whatever a text says, it gives no more than six lines
pub lines_few : (v : List ℕ) → length (counts_in v) ≤ 6
lines_few v = few_lines (counts_in v) (eqb (length (counts_in v)) 0) refl (counts_lines v)

-- each line has a box, and at most six
pub sum_between : (xs : List ℕ) → every (between 1 6) xs ≡ true → (length xs ≤ sum xs) × (sum xs ≤ 6 * length xs)
unfolding sum
sum_between [] e = (omega arith, omega arith)
sum_between (x ∷ xs) e =
    let b = every_parts (between 1 6) x xs e in
    let q = between_true 1 6 x b.0 in
    let r = sum_between xs b.1 in
    (omega (arith, q.0, r.0), omega (arith, q.1, r.1))

-- "36 boxes a film"
pub boxes_most : (l : Layout) → layout_sound l ≡ true → box_count l ≤ 36
unfolding layout_sound box_count
boxes_most l e =
    let h = all_true _ e in
    let lines = (between_true 1 6 l.lines h.1.0).1 in
    let s = (sum_between (take l.lines l.counts) h.1.1.0).1 in
    let n = length-take l.lines l.counts in
    omega arith

no_boxes : (kind : ℕ) (counts : List ℕ) → length counts ≡ 0 → box_count (layout_from kind counts) ≡ 0
unfolding box_count sum
no_boxes kind [] e = refl
no_boxes kind (c ∷ counts) e = absurd (omega arith)

few_boxes : (kind : ℕ) (counts : List ℕ) (none : Bool) → leb kind kind_col ≡ true → eqb (length counts) 0 ≡ none → ((length counts ≡ 0 → ⊥) → Lines counts) → box_count (layout_from kind counts) ≤ most_boxes
few_boxes kind counts true few e g = let z = no_boxes kind counts (eqb-true (length counts) 0 e) in omega arith
few_boxes kind counts false few e g = boxes_most (layout_from kind counts) (layout_sound_lem kind counts few (g (eqb-false (length counts) 0 e)))

-- so of the layout in a data set, also where it is not allowed
pub layout_few : (l : Listing) → box_count (layout_in l) ≤ most_boxes
unfolding layout_in
layout_few l = let v = value_of l 0x2010_0010 in few_boxes (kind_in v) (counts_in v) (eqb (length (counts_in v)) 0) (kind_sound v) refl (counts_lines v)

-- The boxes.

pub new_boxes : (m : Numbers) (boxes : ℕ) → 1 ≤ m.picture → (a n : ℕ) → 1 ≤ a → a + n ≤ boxes + 1 → every (box_sound boxes m) (map new_box (from a n)) ≡ true
unfolding every from
new_boxes m boxes p a zero h g = refl
new_boxes m boxes p a (suc n) h g =
    both_holds (box_sound boxes m (new_box a)) (every (box_sound boxes m) (map new_box (from (a + 1) n)))
    (box_sound_lem boxes m (new_box a) (between_holds 1 boxes a h (omega arith)) refl (lt-ltb 0 m.picture (omega arith)))
    (new_boxes m boxes p (a + 1) n (omega arith) (omega arith))
