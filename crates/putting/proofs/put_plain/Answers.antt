use Prim.Native.Nat.{◌+◌}
use native.Mathlib.Omega.{arith}
use Rattle.octets.specs.Octets.{octets}
use Rattle.writing.specs.Bytes.{tag_octets, plain}
use Rattle.writing.proofs.Sizes.{tag_length, plain_length}
use Rattle.writing.proofs.Chain.{laid_next}
use Rattle.putting.proofs.put_plain.Goals as goal

pub returns : goal.returns
unfolding plain
returns c =
    let a = c.args in
    let l = tag_length a.tag in (
      laid_next a.out.now _ _ (tag_octets a.tag) (octets 4 a.size) a.at (a.at + 4) (omega arith) (omega arith)
          c.put_tag.ensures c.put_number.ensures,
      omega (arith, plain_length a.tag a.size),
    )
