use Prim.Native.Nat.{◌+◌, ◌/◌, ◌%◌}
use native.Mathlib.Omega.{arith}
use Rattle.octets.specs.Octets.{octets}
use Rattle.octets.proofs.Numbers.{octets_length}
use Rattle.writing.specs.Bytes.{tag_octets}
use Rattle.writing.proofs.Chain.{laid_next}
use Rattle.putting.proofs.put_tag.Goals as goal

pub returns : goal.returns
unfolding tag_octets
returns c =
    let a = c.args in
    let l = octets_length 2 (a.tag / 65536) in
    laid_next a.out.now _ _ (octets 2 (a.tag / 65536)) (octets 2 (a.tag % 65536)) a.at (a.at + 2) (omega arith) (omega arith)
    c.put_number.ensures c.put_number-2.ensures
