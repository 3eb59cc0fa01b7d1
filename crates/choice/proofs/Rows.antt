-- Looking a key up in a table, row by row.
-- Assumes nothing.
use mathlib.Core.Path.{◌≡◌, ◌∙◌}
use mathlib.Core.List.{List}
use Prim.Native.Nat.{ℕ, ◌+◌, ◌<◌, ◌≤◌}
use native.Mathlib.Numerals.{add-one}
use lib.ListN.{length, get_or, drop, drop_of_length-le}
use lib.Seq.{drop-cons}
use lib.Dec.{eqb}
use borrow.Author.Tests.{eq-eqb, ne_eqb}
use Rattle.choice.specs.declared.Row.{Row}
use Rattle.choice.specs.Pick.{pick}
use Rattle.choice.specs.Table.{lookup}

module _ (key : ℕ) (rows : List Row) (d : Row) (i : ℕ) (h : i < length rows) where
  look : lookup key (drop i rows) ≡ pick (eqb (get_or rows i d).0 key) (get_or rows i d).1 (lookup key (drop (i + 1) rows))
  look = rw (add-one, drop-cons rows i d h)

  -- the row has the key
  pub look_here : (get_or rows i d).0 ≡ key → lookup key (drop i rows) ≡ (get_or rows i d).1
  look_here e = look ∙ rw (eq-eqb _ _ e)

  -- it has not: the next rows
  pub look_on : ((get_or rows i d).0 ≡ key → ⊥) → lookup key (drop i rows) ≡ lookup key (drop (i + 1) rows)
  look_on e = look ∙ rw (ne_eqb _ _ e)

pub look_end : (key : ℕ) (rows : List Row) (i : ℕ) → length rows ≤ i → lookup key (drop i rows) ≡ 0
look_end key rows i h = rw (drop_of_length-le rows h)
