use Prim.Native.Nat.{◌-◌}
use mathlib.Core.Path.{◌≡◌, sym}
use native.Mathlib.Omega.{arith}
use lib.ListN.{length, get_or}
use lib.Seq.{length-take-le}
use Rattle.std.proofs.Common.{rules}
use Rattle.uids.proofs.Padding.{unpadded_short, unpadded_one, unpadded_none}
use Rattle.uids.proofs.unpadded_length.Goals as goal

pub returns-in-Some-eq0 : goal.returns-in-Some-eq0
returns-in-Some-eq0 c =
    let s = c.args.s.now in
    let e : get_or s (length s - 1) 0 ≡ 0 = search rules in
    (rw (unpadded_one s e) (sym (length-take-le (length s - 1) s (omega arith))), omega arith)

pub returns-in-Some : goal.returns-in-Some
returns-in-Some c =
    let s = c.args.s.now in
    let n : get_or s (length s - 1) 0 ≡ 0 → ⊥ = search rules in
    (rw (unpadded_none s n), omega arith)

pub returns-in-None : goal.returns-in-None
returns-in-None c =
    let s = c.args.s.now in
    let n : length s ≡ 0 = search rules in
    (omega (arith, unpadded_short s), omega arith)
