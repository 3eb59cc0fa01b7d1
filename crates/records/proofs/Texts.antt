-- A text, an array of bytes, is the bytes of its place: its first ones, and those behind them.
-- Assumes nothing.
use Prim.Native.Nat.{ℕ, ◌+◌, ◌-◌, ◌≤◌}
use mathlib.Core.Path.{◌≡◌, sym, ap, ◌∙◌}
use mathlib.Core.List.{List}
use native.Mathlib.Omega.{arith}
use lib.ListN.{length, get_or, take, drop, length-drop}
use lib.Seq.{length-take-le, take-take, take-add, drop_at, drop-drop}
use Rattle.octets.specs.Octets.{part}
use Rattle.fields.specs.Format.{byte, array}
use Rattle.fields.proofs.Blocks.{copied_out}
use Rattle.rules.specs.Bounds.{root_limit}
use Rattle.rules.specs.Records.{root_of}
use Rattle.rules.specs.Layout.{numbers_size, numbers_format}
use Rattle.records.specs.Places.{numbers_in}

module _ (b : List ℕ) (p n : ℕ) (h : p + n ≤ length b) where
  whole : (array n byte).read b p ≡ take n (drop p b)
  whole =
      let e : p + n - p ≡ n = omega arith in
      sym (copied_out b (take n (drop p b)) p n h (rw e))

  pub text_front : (k : ℕ) → k ≤ n → take k ((array n byte).read b p) ≡ part b p (p + k)
  text_front k l =
      let e : p + k - p ≡ k = omega arith in
      rw (whole, e) (take-take k n (drop p b) l)

  pub text_behind : (k : ℕ) → k ≤ n → drop k ((array n byte).read b p) ≡ part b (p + k) (p + n)
  text_behind k l =
      let e : p + n - (p + k) ≡ n - k = omega arith in
      let j : n ≡ k + (n - k) = omega arith in
      ap (drop k) (whole ∙ ap (λ m. take m (drop p b)) j ∙ take-add k (n - k) (drop p b))
      ∙ drop_at (take k (drop p b)) (take (n - k) (drop k (drop p b))) k (length-take-le k (drop p b) (omega (arith, length-drop p b)))
      ∙ rw (e, drop-drop k p b)

-- the root's characters
pub root_stands : (b : List ℕ) → numbers_size ≤ length b → take (get_or b 0 0) (part b 1 41) ≡ root_of (numbers_in b)
unfolding root_of numbers_format
root_stands b h = ap (take (get_or b 0 0)) (sym (text_behind b 1 root_limit (omega arith) 0 (omega arith)))
