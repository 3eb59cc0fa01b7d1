use Prim.Native.Nat.{ℕ, ◌+◌, ◌*◌}
use mathlib.Core.Path.{◌≡◌}
use mathlib.Core.List.{List}
use native.Mathlib.Omega.{arith}
use lib.ListN.{get_or}
use Rattle.octets.specs.Octets.{number_at}
use Rattle.octets.proofs.u16_at.Goals as goal

two_bytes : (s : List ℕ) (at : ℕ) → number_at 2 s at ≡ get_or s at 0 + 256 * get_or s (at + 1) 0
unfolding number_at
two_bytes s at = omega arith

pub returns : goal.returns
returns c =
    let n = two_bytes c.args.s.now c.args.at in
    (omega arith, omega arith)
