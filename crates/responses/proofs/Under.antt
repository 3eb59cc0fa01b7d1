-- A header that is laid in front of what it heads, once that stands.
-- Assumes nothing.
use Prim.Native.Nat.{ℕ, ◌+◌, ◌≤◌}
use mathlib.Core.Path.{◌≡◌, ◌∙◌}
use mathlib.Core.List.{List, ◌++◌, append_assoc}
use native.Mathlib.Nat.{add_assoc}
use native.Mathlib.Omega.{arith}
use lib.ListN.{length, take, drop, length-append}
use lib.Seq.{take-append-le, take-take, drop_at, length-take-le}
use Rattle.octets.specs.Octets.{laid}

under : (s a b : List ℕ) (at : ℕ) → at + length a ≤ length s → laid (laid s (at + length a) b) at a ≡ laid s at (a ++ b)
under s a b at h =
    let front = length-take-le (at + length a) s h in
    rw (take-append-le at (take (at + length a) s) (b ++ drop (at + length a + length b) s) (omega arith), take-take at (at + length a) s (omega arith), drop_at (take (at + length a) s) (b ++ drop (at + length a + length b) s) (at + length a) front)
    (simp (append_assoc, length-append, add_assoc))

pub laid_under : (s m o a b : List ℕ) (at p : ℕ) → at + length a ≤ length s → p ≡ at + length a → m ≡ laid s p b → o ≡ laid m at a → o ≡ laid s at (a ++ b)
laid_under s m o a b at p h ep em eo = eo ∙ rw (em, ep) (under s a b at h)
