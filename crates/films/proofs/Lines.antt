-- A layout's lines, one by one; how many boxes a sound one has.
-- Assumes nothing.
use Prim.Native.Nat.{ℕ, zero, suc, ◌+◌, ◌*◌, ◌≤◌}
use mathlib.Core.Path.{◌≡◌, refl, sym, ap, ◌∙◌}
use mathlib.Core.Bool.{Bool, true}
use mathlib.Core.List.{List, [], ◌∷◌}
use native.Mathlib.Omega.{arith}
use lib.Dec.{eqb, leb}
use lib.ListN.{length, get_or, take, drop, length-take}
use borrow.Author.Tests.{lt-ltb, leb-true}
use Rattle.choice.specs.Pick.{both}
use Rattle.choice.proofs.Picks.{both_true, both_assoc}
use Rattle.fields.specs.Format.{byte, read_all}
use Rattle.rules.specs.declared.Layout.{Layout}
use Rattle.rules.specs.Bounds.{most_boxes}
use Rattle.rules.specs.Lists.{every, sum}
use Rattle.rules.specs.Layout.{layout_format}
use Rattle.rules.specs.Records.{box_count}
use Rattle.rules.specs.Sound.{all, between, zeros, layout_sound}
use Rattle.films.specs.Fit.{line_sound, lines_sound}

one_by_one : ℕ → List ℕ → Bool
one_by_one n [] = true
one_by_one zero (c ∷ counts) = both (eqb c 0) (one_by_one zero counts)
one_by_one (suc n) (c ∷ counts) = both (between 1 6 c) (one_by_one n counts)

lines_one : (n : ℕ) (counts : List ℕ) → lines_sound n counts ≡ one_by_one n counts
unfolding every one_by_one
lines_one zero [] = refl
lines_one zero (c ∷ counts) = ap (both (eqb c 0)) (lines_one zero counts)
lines_one (suc n) [] = refl
lines_one (suc n) (c ∷ counts) =
    sym (both_assoc (between 1 6 c) (every (between 1 6) (take n counts)) (zeros (drop n counts))) ∙ ap (both (between 1 6 c)) (lines_one n counts)

six : (n a b c d e f : ℕ) → one_by_one n (a ∷ b ∷ c ∷ d ∷ e ∷ f ∷ []) ≡ all (line_sound 0 n a ∷ line_sound 1 n b ∷ line_sound 2 n c ∷ line_sound 3 n d ∷ line_sound 4 n e ∷ line_sound 5 n f ∷ [])
unfolding every one_by_one
six zero a b c d e f = refl
six (suc zero) a b c d e f = refl
six (suc (suc zero)) a b c d e f = refl
six (suc (suc (suc zero))) a b c d e f = refl
six (suc (suc (suc (suc zero)))) a b c d e f = refl
six (suc (suc (suc (suc (suc zero))))) a b c d e f = refl
six (suc (suc (suc (suc (suc (suc n)))))) a b c d e f =
    let lines = suc (suc (suc (suc (suc (suc n))))) in
    rw (lt-ltb 0 lines (omega arith), lt-ltb 1 lines (omega arith), lt-ltb 2 lines (omega arith), lt-ltb 3 lines (omega arith), lt-ltb 4 lines (omega arith), lt-ltb 5 lines (omega arith))

-- where they stand
pub lines_told : (b : List ℕ) (p n : ℕ) {r : Bool}
    → r ≡ all (line_sound 0 n (get_or b p 0) ∷ line_sound 1 n (get_or b (p + 1) 0) ∷ line_sound 2 n (get_or b (p + 2) 0) ∷ line_sound 3 n (get_or b (p + 3) 0) ∷ line_sound 4 n (get_or b (p + 4) 0) ∷ line_sound 5 n (get_or b (p + 5) 0) ∷ [])
    → r ≡ lines_sound n (read_all byte b p 6)
unfolding read_all
lines_told b p n t =
    let e : p + 0 ≡ p = omega arith in
    t ∙ sym (lines_one n (read_all byte b p 6) ∙ rw e (six n (get_or b p 0) (get_or b (p + 1) 0) (get_or b (p + 2) 0) (get_or b (p + 3) 0) (get_or b (p + 4) 0) (get_or b (p + 5) 0)))

-- a layout's tests
pub layout_told : (b : List ℕ) (p : ℕ) {r : Bool}
    → r ≡ all (leb (get_or b p 0) 2 ∷ between 1 6 (get_or b (p + 1) 0) ∷ lines_sound (get_or b (p + 1) 0) (read_all byte b (p + 1 + 1) 6) ∷ [])
    → r ≡ layout_sound (layout_format.read b p)
unfolding layout_sound layout_format every
layout_told b p t =
    let n = get_or b (p + 1) 0 in
    let counts = read_all byte b (p + 1 + 1) 6 in
    t ∙ sym (ap (λ (t : Bool). both (leb (get_or b p 0) 2) (both (between 1 6 n) t)) (both_assoc (every (between 1 6) (take n counts)) (zeros (drop n counts)) true))

most : (counts : List ℕ) → every (between 1 6) counts ≡ true → sum counts ≤ 6 * length counts
unfolding every sum
most [] e = omega arith
most (c ∷ counts) e =
    let k = both_true (between 1 6 c) (every (between 1 6) counts) e in
    let l = leb-true c 6 (both_true (leb 1 c) (leb c 6) k.0).1 in
    let m = most counts k.1 in
    omega arith

-- no more boxes than there are places
pub boxes_most : (l : Layout) → layout_sound l ≡ true → box_count l ≤ most_boxes
unfolding layout_sound box_count every
boxes_most l e =
    let n = l.lines in
    let counts = l.counts in
    let rest = both (every (between 1 6) (take n counts)) (both (zeros (drop n counts)) true) in
    let tests = both_true (between 1 6 n) rest (both_true (leb l.kind 2) (both (between 1 6 n) rest) e).1 in
    let lines = leb-true n 6 (both_true (leb 1 n) (leb n 6) tests.0).1 in
    let m = most (take n counts) (both_true (every (between 1 6) (take n counts)) (both (zeros (drop n counts)) true) tests.1).0 in
    let k : length (take n counts) ≤ 6 = rw (length-take) (omega arith) in
    omega arith
