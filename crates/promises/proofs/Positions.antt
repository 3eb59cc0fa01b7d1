-- The numbering of boxes, once over the list of counts: positions up to the sum and spots are one to one.
-- Assumes nothing.
use Prim.Native.Nat.{ℕ, zero, suc, ◌+◌, ◌*◌, ◌-◌, ◌<◌, ◌≤◌}
use mathlib.Core.Path.{◌≡◌, refl, ap, ◌∙◌}
use mathlib.Core.Bool.{Bool, true, false}
use mathlib.Core.List.{List, [], ◌∷◌}
use native.Mathlib.Omega.{arith}
use lib.Dec.{eqb, ltb}
use lib.ListN.{take, replicate}
use borrow.Author.Tests.{ltb-true, ltb-false, lt-ltb, le-ltb}
use Rattle.choice.specs.Pick.{pick}
use Rattle.rules.specs.declared.Layout.{Layout}
use Rattle.rules.specs.Lists.{sum}
use Rattle.rules.specs.Values.{kind_col}
use Rattle.rules.specs.Records.{box_count}
use Rattle.rules.specs.Positions.{Spot, Within, spot_of, before, spot_at, row_of, column_of}

pub record Numbered (counts : List ℕ) : Type 0 where
  -- each position up to the sum stands somewhere, after as many boxes
  pub stands : (n : ℕ) → n < sum counts → Within counts (spot_of counts n) × (before counts (spot_of counts n) ≡ n)
  -- each spot has its position
  pub numbered : (s : Spot) → Within counts s → (before counts s < sum counts) × (spot_of counts (before counts s) ≡ s)

-- a line more in front

module _ (c : ℕ) (counts : List ℕ) (more : Numbered counts) where
  abbrev lower : Spot → Spot
  lower s = record { line = suc s.line; place = s.place }

  here : (n : ℕ) → n < c → spot_of (c ∷ counts) n ≡ record { line = 0; place = n }
  unfolding spot_of
  here n h = rw (lt-ltb n c h)

  below : (n : ℕ) → c ≤ n → spot_of (c ∷ counts) n ≡ lower (spot_of counts (n - c))
  unfolding spot_of
  below n h = rw (le-ltb n c h)

  abbrev Stands : ℕ → Spot → Type 0
  Stands n s = Within (c ∷ counts) s × (before (c ∷ counts) s ≡ n)

  stands_by : (n : ℕ) (first : Bool) → ltb n c ≡ first → n < c + sum counts → Stands n (spot_of (c ∷ counts) n)
  unfolding sum
  stands_by n true e h =
      let l = ltb-true n c e in
      rw (here n l) ((omega arith, l), omega arith)
  stands_by n false e h =
      let l = ltb-false n c e in
      let t = more.stands (n - c) (omega arith) in
      rw (below n l) ((omega (arith, t.0.0), t.0.1), omega (arith, t.1))

  abbrev Numbers : Spot → Type 0
  Numbers s = (before (c ∷ counts) s < c + sum counts) × (spot_of (c ∷ counts) (before (c ∷ counts) s) ≡ s)

  numbered_by : (line place : ℕ) → Within (c ∷ counts) (record { line = line; place = place }) → Numbers (record { line = line; place = place })
  unfolding sum
  numbered_by zero place w =
      let n : before (c ∷ counts) (record { line = 0; place = place }) ≡ place = omega arith in
      (omega (arith, w.1), ap (spot_of (c ∷ counts)) n ∙ here place w.1)
  numbered_by (suc line) place w =
      let s : Spot = record { line = line; place = place } in
      let t = more.numbered s (omega (arith, w.0), w.1) in
      let m = before (c ∷ counts) (lower s) in
      let n : m - c ≡ before counts s = omega arith in
      (omega (arith, t.0), below m (omega arith) ∙ ap lower (ap (spot_of counts) n ∙ t.1))

pub numbering : (counts : List ℕ) → Numbered counts
unfolding sum
numbering [] = record { stands = λ n h. absurd (omega arith); numbered = λ s w. absurd (omega (arith, w.0)) }
numbering (c ∷ counts) =
    let more = numbering counts in
    record {
      stands = λ n h. stands_by c counts more n (ltb n c) refl h;
      numbered = λ s w. numbered_by c counts more s.line s.place w;
    }

-- STANDARD: "the case of R counts all equal to C"
pub even_before : (rows columns line place : ℕ) → line ≤ rows → before (replicate rows columns) (record { line = line; place = place }) ≡ line * columns + place
unfolding sum
even_before rows columns zero place h = omega arith
even_before zero columns (suc line) place h = absurd (omega arith)
even_before (suc rows) columns (suc line) place h = let t = even_before rows columns line place (omega arith) in omega arith

pub even_sum : (rows columns : ℕ) → sum (replicate rows columns) ≡ rows * columns
unfolding sum
even_sum zero columns = omega arith
even_sum (suc rows) columns = let t = even_sum rows columns in omega arith

-- Two boxes of a film do not stand in one place, whether its lines are rows or columns.

module _ (l : Layout) (p q : ℕ) (low : (1 ≤ p) × (1 ≤ q)) (high : (p ≤ box_count l) × (q ≤ box_count l)) where
  one_spot : (spot_at l p).line ≡ (spot_at l q).line → (spot_at l p).place ≡ (spot_at l q).place → p ≡ q
  unfolding box_count
  one_spot e f =
      let counts = take l.lines l.counts in
      let a = ((numbering counts).stands (p - 1) (omega (arith, low.0, high.0))).1 in
      let b = ((numbering counts).stands (q - 1) (omega (arith, low.1, high.1))).1 in
      let c : before counts (spot_at l p) ≡ before counts (spot_at l q) = rw (e, f) refl in
      omega (arith, low.0, low.1, a, b, c)

  one_by : (columns : Bool) → pick columns (spot_at l p).place (spot_at l p).line ≡ pick columns (spot_at l q).place (spot_at l q).line
      → pick columns (spot_at l p).line (spot_at l p).place ≡ pick columns (spot_at l q).line (spot_at l q).place → p ≡ q
  one_by true e f = one_spot f e
  one_by false e f = one_spot e f

  pub one_place : row_of l p ≡ row_of l q → column_of l p ≡ column_of l q → p ≡ q
  one_place e f = one_by (eqb l.kind kind_col) e f
