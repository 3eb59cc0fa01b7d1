-- The records, rule 7.6 (R-1): where the boxes of a film stand, by lines of so many boxes each.
use Rattle.std.specs.Prelude.{ℕ, suc, ◌+◌, ◌-◌, ◌<◌, List, [], ◌∷◌, eqb, ltb, length, get_or, take}
use Rattle.choice.specs.Pick.{pick}
use Rattle.rules.specs.declared.Layout.{Layout}
use Rattle.rules.specs.Lists.{sum}
use Rattle.rules.specs.Values.{kind_col}

-- a line, and a place in it, both from 0
pub record Spot : Type 0 where
  pub line : ℕ
  pub place : ℕ

-- there is such a line, and such a place in it
abbrev pub Within : List ℕ → Spot → Type 0
Within counts s = (s.line < length counts) × (s.place < get_or counts s.line 0)

-- the boxes in order: so many of the first line, then those of the next lines
unfoldable pub spot_of : List ℕ → ℕ → Spot
spot_of [] n = record { line = 0; place = n }
spot_of (c ∷ counts) n =
    pick (ltb n c) (record { line = 0; place = n })
    (record { line = suc (spot_of counts (n - c)).line; place = (spot_of counts (n - c)).place })

-- how many boxes come before a spot
abbrev pub before : List ℕ → Spot → ℕ
before counts s = sum (take s.line counts) + s.place

-- "Positions run by rows for ROW, top to bottom, left to right; for COL by columns, left to right, top to bottom."
abbrev pub spot_at : Layout → ℕ → Spot
spot_at l position = spot_of (take l.lines l.counts) (position - 1)

abbrev pub row_of : Layout → ℕ → ℕ
row_of l position = pick (eqb l.kind kind_col) (spot_at l position).place (spot_at l position).line

abbrev pub column_of : Layout → ℕ → ℕ
column_of l position = pick (eqb l.kind kind_col) (spot_at l position).line (spot_at l position).place
