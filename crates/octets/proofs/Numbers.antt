-- Numbers in bytes, once over the width: a number of w bytes is below 256 ^ w, what was written is read back, and what was
-- read is written back. Assumes nothing.
use Prim.Native.Nat.{ℕ, zero, suc, ◌+◌, ◌*◌, ◌-◌, ◌<◌, ◌≤◌, ◌/◌, ◌%◌, ◌^◌}
use mathlib.Core.Path.{◌≡◌, refl, ap}
use mathlib.Core.List.{List}
use native.Mathlib.Nat.{pow-suc, div-lt_iff_lt-mul}
use native.Mathlib.Numerals.{add-one}
use native.Mathlib.Omega.{arith}
use lib.ListN.{length, get_or}
use lib.Seq.{drop-cons}
use Rattle.octets.specs.Octets.{number_at, octets, part, Bytes}
use Rattle.octets.proofs.Laid.{Stands, stands_byte, stands_rest}

-- one byte more
pub below_step : (w a b : ℕ) → a < 256 → b < 256 ^ w → a + 256 * b < 256 ^ suc w
below_step w a b h k = rw (pow-suc 256 w) (omega arith)

pub number_below : (w : ℕ) (s : List ℕ) (at : ℕ) → Bytes s → number_at w s at < 256 ^ w
unfolding number_at
number_below zero s at o = omega arith
number_below (suc w) s at o = below_step w (get_or s at 0) (number_at w s (at + 1)) (o at) (number_below w s (at + 1) o)

pub octets_length : (w x : ℕ) → length (octets w x) ≡ w
unfolding octets
octets_length zero x = refl
octets_length (suc w) x = ap suc (octets_length w (x / 256))

pub octets_bytes : (w x : ℕ) → Bytes (octets w x)
unfolding octets
octets_bytes zero x i = omega arith
octets_bytes (suc w) x zero = omega arith
octets_bytes (suc w) x (suc i) = octets_bytes w (x / 256) i

-- a number is below 256 ^ w: its further bytes are below 256 ^ (w - 1)
div_below : (w x : ℕ) → x < 256 ^ suc w → x / 256 < 256 ^ w
div_below w x h = (div-lt_iff_lt-mul {k = 256} {x = x} {y = 256 ^ w} (omega arith)).1 (rw (pow-suc 256 w) at h)

-- what was written is read back
pub number_back : (w x : ℕ) (s : List ℕ) (at : ℕ) → x < 256 ^ w → Stands s at (octets w x) → number_at w s at ≡ x
unfolding number_at octets
number_back zero x s at h e = omega arith
number_back (suc w) x s at h e =
    rw (stands_byte s at (x % 256) (octets w (x / 256)) e, number_back w (x / 256) s (at + 1) (div_below w x h) (stands_rest s at (x % 256) (octets w (x / 256)) e))
    (omega arith)

split : (a b : ℕ) → a < 256 → ((a + 256 * b) % 256 ≡ a) × ((a + 256 * b) / 256 ≡ b)
split a b h = (omega arith, omega arith)

-- what was read is written back
pub octets_back : (w : ℕ) (s : List ℕ) (at : ℕ) → Bytes s → at + w ≤ length s → octets w (number_at w s at) ≡ part s at (at + w)
unfolding number_at octets
octets_back zero s at o h = let e : at + 0 - at ≡ 0 = omega arith in rw e
octets_back (suc w) s at o h =
    let e : at + suc w - at ≡ suc w = omega arith in
    let k : at + 1 + w - (at + 1) ≡ w = omega arith in
    let p = split (get_or s at 0) (number_at w s (at + 1)) (o at) in
    rw (p.0, p.1, e, drop-cons s at 0 (omega arith), octets_back w s (at + 1) o (omega arith), k, add-one at)
