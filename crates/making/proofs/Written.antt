-- What the writers write: a digit behind a number's tens, and a root, a dot and a serial.
-- Assumes nothing.
use Prim.Native.Nat.{ℕ, ◌+◌, ◌<◌, ◌≤◌, ◌/◌, ◌%◌}
use mathlib.Core.Path.{◌≡◌, sym, ap, ◌∙◌}
use mathlib.Core.List.{List, [], ◌∷◌}
use native.Mathlib.Omega.{arith}
use lib.ListN.{length, set, length-append}
use Rattle.octets.specs.Octets.{laid}
use Rattle.octets.proofs.Laid.{length_laid, laid_then, laid_none, laid_cons}
use Rattle.uids.specs.Uids.{decimal, made}
use Rattle.uids.proofs.Decimal.{decimal_one, decimal_more}

pub one_length : (n : ℕ) → n < 10 → length (decimal n) ≡ 1
one_length n h = rw (decimal_one n h)

pub more_length : (n : ℕ) → 10 ≤ n → n < 10000000000 → length (decimal n) ≡ length (decimal (n / 10)) + 1
more_length n h k = ap length (decimal_more n h k) ∙ length-append (decimal (n / 10)) ((48 + n % 10) ∷ [])

stored : (s : List ℕ) (at b : ℕ) → at < length s → set s at b ≡ laid s at (b ∷ [])
stored s at b h = sym (laid_cons s at b [] h ∙ laid_none (set s at b) (at + 1))

pub one_written : (s : List ℕ) (at n b : ℕ) → n < 10 → at < length s → b ≡ 48 + n % 10 → set s at b ≡ laid s at (decimal n)
one_written s at n b h k e = stored s at b k ∙ rw (decimal_one n h, e)

pub more_written : (s t : List ℕ) (at last n b : ℕ) → 10 ≤ n → n < 10000000000 → at + length (decimal n) ≤ length s
    → t ≡ laid s at (decimal (n / 10)) → last ≡ at + length (decimal (n / 10)) → b ≡ 48 + n % 10 → set t last b ≡ laid s at (decimal n)
more_written s t at last n b h m k d l e =
    let r : at + length (decimal (n / 10)) ≤ length s = omega (arith, more_length n h m) in
    let g : last < length t = omega (arith, more_length n h m, ap length d ∙ length_laid s at (decimal (n / 10)) r) in
    stored t last b g
    ∙ rw (d, l, e, decimal_more n h m) (laid_then s at (decimal (n / 10)) r ((48 + n % 10) ∷ []))

pub made_written : (s t out root : List ℕ) (at serial : ℕ) → at + length root + 1 ≤ length s
    → t ≡ laid s at root → out ≡ laid (set t (at + length root) 46) (at + length root + 1) (decimal serial) → out ≡ laid s at (made root serial)
unfolding made
made_written s t out root at serial h d e =
    let g : at + length root < length t = omega (arith, ap length d ∙ length_laid s at root (omega arith)) in
    e ∙ sym (laid_cons t (at + length root) 46 (decimal serial) g) ∙ rw d (laid_then s at root (omega arith) (46 ∷ decimal serial))
