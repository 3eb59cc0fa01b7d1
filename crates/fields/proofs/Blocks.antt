-- An array of bytes is its bytes.
-- Assumes nothing.
use Prim.Native.Nat.{ℕ, zero, suc, ◌+◌, ◌*◌, ◌-◌, ◌≤◌}
use mathlib.Core.Path.{◌≡◌, refl, sym, ◌∙◌}
use mathlib.Core.List.{List, ◌++◌, append-nil}
use native.Mathlib.Omega.{arith}
use lib.ListN.{length, take, drop, length-drop}
use lib.Seq.{length-take-le, drop-length, take_all, take-suc, get_or-drop}
use Rattle.octets.specs.Octets.{part, laid}
use Rattle.fields.specs.Format.{write, byte, read_all, bytes_all, array}

all_read : (s : List ℕ) (at n : ℕ) → at + n ≤ length s → read_all byte s at n ≡ take n (drop at s)
unfolding read_all
all_read s at zero h = refl
all_read s at (suc n) h =
    let k : n * 1 ≡ n = omega arith in
    sym (take-suc (drop at s) n 0 (omega (arith, length-drop at s)) ∙ rw (all_read s at n (omega arith), get_or-drop at s n 0, k))

all_bytes : (a : List ℕ) (n : ℕ) → n ≤ length a → bytes_all byte a n ≡ take n a
unfolding bytes_all
all_bytes a zero h = refl
all_bytes a (suc n) h = rw (all_bytes a n (omega arith)) (sym (take-suc a n 0 (omega arith)))

-- what is written is the array itself
pub write_block : (a s : List ℕ) (at n : ℕ) → length a ≡ n → write (array n byte) a s at ≡ laid s at a
unfolding write
write_block a s at n e = rw (all_bytes a n (omega arith), take_all n a (omega arith))

-- a copy out of a part of s
pub copied_out : (s x : List ℕ) (at n : ℕ) → at + n ≤ length s → x ≡ part s at (at + n) → x ≡ (array n byte).read s at
copied_out s x at n h e =
    let k : at + n - at ≡ n = omega arith in
    e ∙ rw k (sym (all_read s at n h))
