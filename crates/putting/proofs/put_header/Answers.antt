use Prim.Native.Nat.{◌+◌}
use mathlib.Core.Path.{ap, ◌∙◌}
use native.Mathlib.Omega.{arith}
use lib.ListN.{length, length-append}
use Rattle.writing.specs.Bytes.{tag_octets, vr_octets}
use Rattle.writing.proofs.Sizes.{tag_length, plain_length}
use Rattle.writing.proofs.Chain.{laid_next, header_explicit, header_implicit}
use Rattle.putting.proofs.put_header.Goals as goal

pub put_plain-requires : goal.put_plain-requires
put_plain-requires c = let a = c.args in
    omega (arith, ap length (header_implicit a.syntax a.tag a.vr a.size c.in-Implicit.is), plain_length a.tag a.size)

pub put_tag-requires : goal.put_tag-requires
put_tag-requires c = let a = c.args in
    omega (arith, ap length (header_explicit a.syntax a.tag a.vr a.size c.in-Explicit.is), length-append (tag_octets a.tag) (vr_octets a.vr a.size), tag_length a.tag)

pub put_vr-requires : goal.put_vr-requires
put_vr-requires c = let a = c.args in
    omega (arith, ap length (header_explicit a.syntax a.tag a.vr a.size c.in-Explicit.is), length-append (tag_octets a.tag) (vr_octets a.vr a.size), tag_length a.tag)

pub returns-in-Implicit : goal.returns-in-Implicit
returns-in-Implicit c = let a = c.args in
    rw (header_implicit a.syntax a.tag a.vr a.size c.in-Implicit.is) c.put_plain.ensures

pub returns-in-Explicit : goal.returns-in-Explicit
returns-in-Explicit c = let a = c.args in let e = header_explicit a.syntax a.tag a.vr a.size c.in-Explicit.is in
    let l = ap length e ∙ length-append (tag_octets a.tag) (vr_octets a.vr a.size) in
    let n = tag_length a.tag in (
      rw e
          (laid_next a.out.now _ _ (tag_octets a.tag) (vr_octets a.vr a.size) a.at (a.at + 4) (omega arith) (omega arith)
          c.put_tag.ensures c.put_vr.ensures.0),
      omega arith,
    )
