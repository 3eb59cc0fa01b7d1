use Prim.Native.Nat.{◌+◌, ◌%◌}
use native.Mathlib.Omega.{arith}
use lib.ListN.{length}
use Rattle.octets.specs.Octets.{octets}
use Rattle.writing.specs.Bytes.{padding, header}
use Rattle.writing.proofs.Chain.{laid_next_two, element_parts, element_room}
use borrow.Author.Rules.{rules}
use Rattle.putting.proofs.put_element.Goals as goal

pub put_header-from-requires : goal.put_header-from-requires
put_header-from-requires c = let a = c.args in omega (arith, element_room a.syntax a.tag a.vr a.bytes.now)

pub put-requires : goal.put-requires
put-requires c =
    let a = c.args in omega (arith, element_room a.syntax a.tag a.vr a.bytes.now)

pub overflow_add-from : goal.overflow_add-from
overflow_add-from c =
    let a = c.args in let l = element_room a.syntax a.tag a.vr a.bytes.now in search rules

pub put_number-requires : goal.put_number-requires
put_number-requires c =
    let a = c.args in omega (arith, element_room a.syntax a.tag a.vr a.bytes.now)

pub overflow_add-result : goal.overflow_add-result
overflow_add-result c =
    let a = c.args in let l = element_room a.syntax a.tag a.vr a.bytes.now in search rules

pub overflow_add-result-2 : goal.overflow_add-result-2
overflow_add-result-2 c =
    let a = c.args in let l = element_room a.syntax a.tag a.vr a.bytes.now in search rules

pub returns : goal.returns
returns c =
    let a = c.args in
    let n = length a.bytes.now in
    let l = element_room a.syntax a.tag a.vr a.bytes.now in
    let from = c.put_header-from.result in (
      rw (element_parts a.syntax a.tag a.vr a.bytes.now)
          (laid_next_two a.out.now _ _ _ (header a.syntax a.tag a.vr (n + n % 2)) a.bytes.now (octets (n % 2) (padding a.vr))
          a.at from (from + n) (omega arith) c.put_header-from.ensures.1 (omega arith)
          c.put_header-from.ensures.0 c.put.ensures (rw (← c.pad.ensures) c.put_number.ensures)),
      omega arith,
    )
