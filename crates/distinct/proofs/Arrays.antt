-- The elements of an array that was read in place: one by one, over the first few, and a test of each.
-- Assumes nothing.
use Prim.Native.Nat.{ℕ, ◌+◌, ◌*◌, ◌<◌, ◌≤◌}
use mathlib.Core.Path.{◌≡◌, ap, ◌∙◌}
use mathlib.Core.Bool.{Bool, true, false}
use mathlib.Core.List.{List, [], ◌∷◌}
use native.Mathlib.Numerals.{add-one}
use native.Mathlib.Omega.{arith}
use lib.ListN.{length, take, drop, length-take, drop_of_length-le}
use lib.Seq.{drop-cons, get_or-take}
use Rattle.choice.specs.Pick.{both}
use Rattle.choice.proofs.Picks.{both_fails, both_only}
use Rattle.fields.specs.Format.{Format, read_all}
use Rattle.fields.proofs.Laws.{get_read}
use Rattle.rules.specs.Lists.{every}

-- the first k of n, which begin at a place
module _ {A : Type 0} (f : Format A) (b : List ℕ) (at n k i : ℕ) where
  pub next_read : length (read_all f b at n) ≡ n → (p : ℕ) → p ≡ at + i * f.size → i < k → k ≤ n
      → drop i (take k (read_all f b at n)) ≡ f.read b p ∷ drop (i + 1) (take k (read_all f b at n))
  next_read whole p e l h =
      let xs = read_all f b at n in
      let short : i < length (take k xs) = rw (length-take) (omega arith) in
      rw (add-one i, drop-cons (take k xs) i f.blank short, get_or-take k xs i f.blank l, get_read f b at n i (omega arith), e)

  pub none_read : k ≤ i → drop i (take k (read_all f b at n)) ≡ []
  none_read h = let e : length (take k (read_all f b at n)) ≤ i = rw (length-take) (omega arith) in drop_of_length-le (take k (read_all f b at n)) e

  module _ (test : A → Bool) where
    -- the element at i
    module _ (whole : length (read_all f b at n) ≡ n) (p : ℕ) (e : p ≡ at + i * f.size) (l : i < k) (h : k ≤ n) (told : Bool) (d : told ≡ test (f.read b p)) where
      turn : every test (drop i (take k (read_all f b at n))) ≡ both told (every test (drop (i + 1) (take k (read_all f b at n))))
      unfolding every
      turn = ap (every test) (next_read whole p e l h) ∙ rw d

      -- it passes: the next ones
      pub read_on : told ≡ true → every test (drop i (take k (read_all f b at n))) ≡ every test (drop (i + 1) (take k (read_all f b at n)))
      read_on t = turn ∙ rw t

      -- it does not
      pub read_not : told ≡ false → every test (drop i (take k (read_all f b at n))) ≡ false
      read_not t = turn ∙ rw t

      -- the same where a flag says whether all passed so far
      pub flag_on : (flag : Bool) → told ≡ true → both flag (every test (drop i (take k (read_all f b at n)))) ≡ both flag (every test (drop (i + 1) (take k (read_all f b at n))))
      flag_on flag t = rw (read_on t)

      pub flag_not : (flag : Bool) → told ≡ false → both flag (every test (drop i (take k (read_all f b at n)))) ≡ false
      flag_not flag t = rw (read_not t) (both_fails flag)

    pub read_end : k ≤ i → every test (drop i (take k (read_all f b at n))) ≡ true
    unfolding every
    read_end h = rw (none_read h)

    pub flag_end : (flag : Bool) → k ≤ i → both flag (every test (drop i (take k (read_all f b at n)))) ≡ flag
    flag_end flag h = rw (read_end h) (both_only flag)
