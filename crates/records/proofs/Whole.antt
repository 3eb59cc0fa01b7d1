-- The records' array is as long as the records.
-- Assumes nothing.
use Prim.Native.Nat.{ℕ, ◌≤◌}
use mathlib.Core.Path.{◌≡◌}
use mathlib.Core.List.{List}
use native.Mathlib.Omega.{arith}
use lib.ListN.{length}
use Rattle.rules.specs.Layout.{records_size, numbers_size}

pub whole : (b : List ℕ) → length b ≡ records_size → records_size ≤ length b
whole b e = omega arith

pub numbers_whole : (b : List ℕ) → length b ≡ records_size → numbers_size ≤ length b
numbers_whole b e = omega arith
