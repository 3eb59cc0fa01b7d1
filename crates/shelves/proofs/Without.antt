-- A list without one of its elements: its length, and with others behind it.
-- Assumes nothing.
use Prim.Native.Nat.{ℕ, suc, ◌-◌, ◌<◌}
use mathlib.Core.Path.{◌≡◌}
use mathlib.Core.List.{List, ◌++◌, append_assoc}
use native.Mathlib.Omega.{arith}
use lib.ListN.{length, length-append, length-take, length-drop}
use lib.Seq.{take-append-le, drop-append-le}
use Rattle.rules.specs.Lists.{without}

module _ {A : Type 0} where
  pub without_length : (i : ℕ) (xs : List A) → i < length xs → length (without i xs) ≡ length xs - 1
  without_length i xs h = simp (length-append, length-take, length-drop) (omega arith)

  pub without_append : (i : ℕ) (xs ys : List A) → i < length xs → without i (xs ++ ys) ≡ without i xs ++ ys
  without_append i xs ys h = rw (take-append-le i xs ys (omega arith), drop-append-le (suc i) xs ys (omega arith), append_assoc)
