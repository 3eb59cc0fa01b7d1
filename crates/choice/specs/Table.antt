-- A table of rows: looking a key up.
use Rattle.std.specs.Prelude.{ℕ, List, [], ◌∷◌, eqb}
use Rattle.choice.specs.declared.Row.{Row}
use Rattle.choice.specs.Pick.{pick}

infix 30 ◌is◌
abbrev pub ◌is◌ : ℕ → ℕ → Row
k is v = record { 0 = k; 1 = v }

-- what a table has for a key, 0 where it has nothing
abbrev pub lookup : ℕ → List Row → ℕ
lookup key [] = 0
lookup key (row ∷ rows) = pick (eqb row.0 key) row.1 (lookup key rows)
