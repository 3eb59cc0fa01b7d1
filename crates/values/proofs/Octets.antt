-- A number of two bytes where fewer are there.
-- Assumes nothing.
use Prim.Native.Nat.{ℕ, ◌≤◌}
use mathlib.Core.Path.{◌≡◌}
use mathlib.Core.List.{List}
use native.Mathlib.Omega.{arith}
use lib.ListN.{length, get_or, get_or-eq_default}
use Rattle.octets.specs.Octets.{number_at}

pub behind_end : (s : List ℕ) → length s ≤ 0 → number_at 2 s 0 ≡ 0
unfolding number_at
behind_end s h =
    let g : length s ≤ 1 = omega (arith, h) in
    rw (get_or-eq_default s 0 h, get_or-eq_default s 0 g)

pub one_byte : (s : List ℕ) → length s ≤ 1 → number_at 2 s 0 ≡ get_or s 0 0
unfolding number_at
one_byte s h = rw (get_or-eq_default s 0 h) (omega arith)
