-- A list that is filled to so many places: with an element more, with another, and without one.
-- Assumes nothing.
use Prim.Native.Nat.{ℕ, zero, suc, ◌+◌, ◌-◌, ◌<◌, ◌≤◌}
use mathlib.Core.Path.{◌≡◌, refl, ap, ◌∙◌}
use mathlib.Core.List.{List, [], ◌∷◌, ◌++◌, map, append_assoc}
use native.Mathlib.Numerals.{add-one}
use native.Mathlib.Omega.{arith}
use lib.ListN.{length, set, replicate, length-append, length-map, length-set, replicate-append-replicate}
use lib.Seq.{set-append_left, set-append_seam}
use Rattle.std.proofs.lemmas.List.{map-append, drop-replicate}
use Rattle.octets.specs.Octets.{laid}
use Rattle.rules.specs.Lists.{filled_to, from, without}
use Rattle.shelves.proofs.Without.{without_length, without_append}

module _ {A : Type 0} (blank : A) where
  replicate_first : (n : ℕ) → 0 < n → replicate n blank ≡ blank ∷ replicate (n - 1) blank
  replicate_first zero h = absurd (omega arith)
  replicate_first (suc n) h = let e : suc n - 1 ≡ n = omega arith in rw e

-- bytes laid over blank ones
pub laid_filled : (n blank : ℕ) (xs : List ℕ) → length xs ≤ n → laid (replicate n blank) 0 xs ≡ filled_to n blank xs
laid_filled n blank xs h = let e : 0 + length xs ≡ length xs = omega arith in rw (e, drop-replicate (length xs) n blank)

-- Places of which the first hold a list, and the others are blank.

pub record Holds {A : Type 0} (m : ℕ) (blank : A) (count : ℕ) (places : List A) (xs : List A) : Type 0 where
  pub counted : count ≡ length xs
  pub placed : places ≡ filled_to m blank xs

module _ {A : Type 0} (m : ℕ) (blank : A) (count : ℕ) (places : List A) (xs : List A) (held : Holds m blank count places xs) where
  -- an element more, at the first place that is left
  pub holds_more : (y : A) → count < m → Holds m blank (count + 1) (set places count y) (xs ++ (y ∷ []))
  holds_more y h =
      let e = held.counted in
      let k : m - length xs - 1 ≡ m - (length xs + 1) = omega arith in
      record {
        counted = simp length-append (omega arith);
        placed = rw (held.placed, e, replicate_first blank (m - length xs) (omega arith), set-append_seam, append_assoc, length-append, k);
      }

  pub holds_set : (i : ℕ) (y : A) → i < length xs → Holds m blank count (set places i y) (set xs i y)
  holds_set i y h =
      record {
        counted = held.counted ∙ simp length-set;
        placed = rw (held.placed, set-append_left, length-set);
      }

  pub holds_without : (i : ℕ) → i < length xs → count ≤ m → Holds m blank (count - 1) (without i places ++ (blank ∷ [])) (without i xs)
  holds_without i h l =
      let e = held.counted in
      let k : m - length xs + 1 ≡ m - (length xs - 1) = omega arith in
      record {
        counted = rw (without_length i xs h, e);
        placed = rw (held.placed, without_append i xs (replicate (m - length xs) blank) h, append_assoc, without_length i xs h, ← k, ← replicate-append-replicate);
      }

-- Numbers counted on.

from_length : (n k : ℕ) → length (from n k) ≡ k
unfolding from
from_length n zero = refl
from_length n (suc k) = ap suc (from_length (n + 1) k)

from_more : (n k : ℕ) → from n (suc k) ≡ from n k ++ ((k + n) ∷ [])
unfolding from
from_more n zero = let e : 0 + n ≡ n = omega arith in rw e
from_more n (suc k) = let e : k + (n + 1) ≡ suc k + n = omega arith in rw (from_more (n + 1) k, e)

-- one more of what is made of the numbers from one on
pub counted_more : {A : Type 0} (m : ℕ) (blank : A) (f : ℕ → A) (n i : ℕ) → i < m → set (filled_to m blank (map f (from n i))) i (f (i + n)) ≡ filled_to m blank (map f (from n (i + 1)))
counted_more m blank f n i h =
    let xs = map f (from n i) in
    let held : Holds m blank i (filled_to m blank xs) xs = record { counted = simp (length-map, from_length); placed = refl } in
    rw (add-one, from_more n i, map-append) (holds_more m blank i (filled_to m blank xs) xs held (f (i + n)) h).placed
