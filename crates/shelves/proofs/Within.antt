-- The one at a place of a list's first few.
-- Assumes nothing.
use Prim.Native.Nat.{ℕ, ◌<◌, min}
use mathlib.Core.Path.{◌≡◌, sym, ◌∙◌}
use mathlib.Core.List.{List}
use native.Mathlib.Omega.{arith}
use lib.ListN.{length, get_or, take, length-take}
use lib.Seq.{get_or-take}
use Rattle.std.proofs.lemmas.List.{get_or_default}

-- an element is read whatever stands for those that are not there
pub get_d_there : {A : Type 0} (xs : List A) (i : ℕ) (d e : A) → i < length xs → get_or xs i d ≡ get_or xs i e
get_d_there xs i d e h = get_or_default xs i d e h

module _ {A : Type 0} (xs : List A) (n : ℕ) where
  pub few_below : (i : ℕ) → i < length (take n xs) → (i < n) × (i < length xs)
  few_below i h = let l : i < min n (length xs) = rw (length-take) at h in (omega arith, omega arith)

  pub few_at : (i : ℕ) (d e : A) → i < length (take n xs) → get_or xs i d ≡ get_or (take n xs) i e
  few_at i d e h = let b = few_below i h in get_d_there xs i d e b.1 ∙ sym (get_or-take n xs i e b.0)
