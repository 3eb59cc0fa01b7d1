-- Bytes laid over a list: they stand there, and two runs laid one after the other are one.
-- Assumes nothing.
use Prim.Native.Nat.{ℕ, suc, ◌+◌, ◌-◌, ◌<◌, ◌≤◌}
use mathlib.Core.Path.{◌≡◌, sym, ap, ◌∙◌}
use mathlib.Core.List.{List, [], ◌∷◌, ◌++◌, append_assoc}
use native.Mathlib.Nat.{add_assoc}
use native.Mathlib.Numerals.{add-one}
use native.Mathlib.Omega.{arith}
use lib.ListN.{length, get_or, set, take, drop, length-append, length-take, length-drop, take-append-drop}
use lib.Seq.{take_at, drop_at, drop-drop, length-take-le, take-append_seam, drop-append_seam, take-take, get_or-take, get_or-drop, take-suc-set, drop-set-lt, take-add}
use Rattle.octets.specs.Octets.{part, laid}

-- the bytes stand in the list at a place
abbrev pub Stands : List ℕ → ℕ → List ℕ → Type 0
Stands s at bytes = part s at (at + length bytes) ≡ bytes

added : (a b : ℕ) → a + b - a ≡ b
added a b = omega arith

module _ (s : List ℕ) (at : ℕ) (bytes : List ℕ) (h : at + length bytes ≤ length s) where
  pub length_laid : length (laid s at bytes) ≡ length s
  length_laid = simp (length-append, length-take, length-drop) (omega arith)

  front : length (take at s) ≡ at
  front = length-take-le at s (omega arith)

  -- what was laid stands there
  pub laid_stands : Stands (laid s at bytes) at bytes
  laid_stands =
      rw (added at (length bytes), drop_at (take at s) (bytes ++ drop (at + length bytes) s) at front)
      (take-append_seam bytes (drop (at + length bytes) s))

  head : length (take at s ++ bytes) ≡ at + length bytes
  head = simp (length-append, front)

  parted : laid s at bytes ≡ (take at s ++ bytes) ++ drop (at + length bytes) s
  parted = sym (append_assoc (take at s) bytes (drop (at + length bytes) s))

  -- laid one after the other
  pub laid_then : (more : List ℕ) → laid (laid s at bytes) (at + length bytes) more ≡ laid s at (bytes ++ more)
  laid_then more =
      ap (λ (t : List ℕ). take (at + length bytes) t ++ (more ++ drop (at + length bytes + length more) t)) parted
      ∙ rw (take_at (take at s ++ bytes) (drop (at + length bytes) s) (at + length bytes) head, ← drop-drop (length more) (at + length bytes) ((take at s ++ bytes) ++ drop (at + length bytes) s), drop_at (take at s ++ bytes) (drop (at + length bytes) s) (at + length bytes) head, drop-drop)
      (simp (append_assoc, length-append, add_assoc))

-- nothing laid changes nothing
pub laid_none : (s : List ℕ) (at : ℕ) → laid s at [] ≡ s
laid_none s at = let e : at + 0 ≡ at = omega arith in rw e (take-append-drop at s)

-- one byte is a store
pub laid_cons : (s : List ℕ) (at b : ℕ) (bytes : List ℕ) → at < length s → laid s at (b ∷ bytes) ≡ laid (set s at b) (at + 1) bytes
laid_cons s at b bytes h =
    let e : at + suc (length bytes) ≡ at + 1 + length bytes = omega arith in
    rw (e, drop-set-lt (at + 1 + length bytes) s at b (omega arith), add-one at, take-suc-set s at b h)
    (sym (append_assoc (take at s) (b ∷ []) (bytes ++ drop (suc at + length bytes) s)))

-- what stands somewhere stands there in its parts
module _ (s : List ℕ) (at : ℕ) (a b : List ℕ) (e : Stands s at (a ++ b)) where
  whole : take (length a + length b) (drop at s) ≡ a ++ b
  whole = rw (added at (length (a ++ b)), length-append a b) at e

  first : take (length a) (drop at s) ≡ a
  first = sym (take-take (length a) (length a + length b) (drop at s) (omega arith)) ∙ ap (λ (t : List ℕ). take (length a) t) whole ∙ take-append_seam a b

  pub stands_first : Stands s at a
  stands_first = rw (added at (length a)) first

  pub stands_second : Stands s (at + length a) b
  stands_second =
      rw (added (at + length a) (length b), ← drop-drop (length a) at s)
      (sym (drop_at (take (length a) (drop at s)) (take (length b) (drop (length a) (drop at s))) (length a) (ap length first))
      ∙ ap (λ (t : List ℕ). drop (length a) t) (sym (take-add (length a) (length b) (drop at s)) ∙ whole)
      ∙ drop-append_seam a b)

-- the first byte of what stands somewhere
pub stands_byte : (s : List ℕ) (at b : ℕ) (bytes : List ℕ) → Stands s at (b ∷ bytes) → get_or s at 0 ≡ b
stands_byte s at b bytes e =
    let z : at + 0 ≡ at = omega arith in
    let f : get_or (take (suc (length bytes)) (drop at s)) 0 0 ≡ b = rw (added at (suc (length bytes))) at (ap (λ (t : List ℕ). get_or t 0 0) e) in
    sym (get_or-take (suc (length bytes)) (drop at s) 0 0 (omega arith) ∙ get_or-drop at s 0 0 ∙ ap (λ (n : ℕ). get_or s n 0) z) ∙ f

pub stands_rest : (s : List ℕ) (at b : ℕ) (bytes : List ℕ) → Stands s at (b ∷ bytes) → Stands s (at + 1) bytes
stands_rest s at b bytes e = stands_second s at (b ∷ []) bytes e

-- what was laid in front stands there
pub laid_front : (s out bytes : List ℕ) (n : ℕ) → out ≡ laid s 0 bytes → n ≡ length bytes → take n out ≡ bytes
laid_front s out bytes n e h = rw (e, h) (take-append_seam bytes (drop (0 + length bytes) s))
