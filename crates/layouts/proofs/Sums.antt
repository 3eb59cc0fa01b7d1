-- The sum of a list's first few numbers, one by one.
-- Assumes nothing.
use Prim.Native.Nat.{ℕ, zero, suc, ◌+◌, ◌<◌, ◌≤◌}
use mathlib.Core.Path.{◌≡◌, refl}
use mathlib.Core.List.{List, [], ◌∷◌}
use native.Mathlib.Numerals.{add-one}
use native.Mathlib.Omega.{arith}
use lib.Dec.{ltb}
use lib.ListN.{length, get_or, take, drop, drop_of_length-le}
use lib.Seq.{drop-cons, take-nil}
use borrow.Author.Tests.{lt-ltb}
use Rattle.choice.specs.Pick.{pick}
use Rattle.fields.specs.Format.{byte, read_all}
use Rattle.rules.specs.Lists.{sum}
use Rattle.rules.specs.Records.{box_count}
use Rattle.rules.specs.Layout.{layout_format}

-- one number more
pub sum_turn : (xs : List ℕ) (i v : ℕ) → i < length xs → sum xs ≡ v + sum (drop i xs) → sum xs ≡ v + get_or xs i 0 + sum (drop (i + 1) xs)
unfolding sum
sum_turn xs i v h d =
    let e : sum (drop i xs) ≡ get_or xs i 0 + sum (drop (i + 1) xs) = rw (add-one i, drop-cons xs i 0 h) in
    omega (arith, e)

pub sum_done : (xs : List ℕ) (i v : ℕ) → length xs ≤ i → sum xs ≡ v + sum (drop i xs) → v ≡ sum xs
unfolding sum
sum_done xs i v h d =
    let e : sum (drop i xs) ≡ 0 = rw (drop_of_length-le xs h) in
    omega (arith, e)

-- six numbers at once
abbrev sixth : ℕ → ℕ → ℕ → ℕ
sixth n i x = pick (ltb i n) x 0

six : (n a b c d e f : ℕ) → sum (take n (a ∷ b ∷ c ∷ d ∷ e ∷ f ∷ [])) ≡ sixth n 0 a + sixth n 1 b + sixth n 2 c + sixth n 3 d + sixth n 4 e + sixth n 5 f
unfolding sum
six zero a b c d e f = refl
six (suc zero) a b c d e f = omega arith
six (suc (suc zero)) a b c d e f = omega arith
six (suc (suc (suc zero))) a b c d e f = omega arith
six (suc (suc (suc (suc zero)))) a b c d e f = omega arith
six (suc (suc (suc (suc (suc zero))))) a b c d e f = omega arith
six (suc (suc (suc (suc (suc (suc n)))))) a b c d e f =
    let lines = suc (suc (suc (suc (suc (suc n))))) in
    let none : sum (take n []) ≡ 0 = rw (take-nil {A = ℕ} n) in
    rw (lt-ltb 0 lines (omega arith), lt-ltb 1 lines (omega arith), lt-ltb 2 lines (omega arith), lt-ltb 3 lines (omega arith), lt-ltb 4 lines (omega arith), lt-ltb 5 lines (omega arith)) (omega arith)

counts_at : (s : List ℕ) (p : ℕ) → read_all byte s (p + 1 + 1) 6 ≡ get_or s (p + 2) 0 ∷ get_or s (p + 3) 0 ∷ get_or s (p + 4) 0 ∷ get_or s (p + 5) 0 ∷ get_or s (p + 6) 0 ∷ get_or s (p + 7) 0 ∷ []
unfolding read_all
counts_at s p =
    let e0 : p + 1 + 1 + 0 ≡ p + 2 = omega arith in
    let e1 : p + 1 + 1 + 1 ≡ p + 3 = omega arith in
    let e2 : p + 1 + 1 + 2 ≡ p + 4 = omega arith in
    let e3 : p + 1 + 1 + 3 ≡ p + 5 = omega arith in
    let e4 : p + 1 + 1 + 4 ≡ p + 6 = omega arith in
    let e5 : p + 1 + 1 + 5 ≡ p + 7 = omega arith in
    rw (e0, e1, e2, e3, e4, e5)

-- the boxes of a layout that stands in bytes
pub boxes_at : (s : List ℕ) (p : ℕ) → let n = get_or s (p + 1) 0 in
    box_count (layout_format.read s p)
    ≡ sixth n 0 (get_or s (p + 2) 0) + sixth n 1 (get_or s (p + 3) 0) + sixth n 2 (get_or s (p + 4) 0) + sixth n 3 (get_or s (p + 5) 0) + sixth n 4 (get_or s (p + 6) 0) + sixth n 5 (get_or s (p + 7) 0)
unfolding box_count layout_format
boxes_at s p = rw (counts_at s p) (six (get_or s (p + 1) 0) _ _ _ _ _ _)
