use native.Mathlib.Omega.{arith}
use Rattle.octets.specs.Octets.{octets}
use Rattle.writing.specs.Bytes.{header}
use Rattle.writing.proofs.Chain.{laid_next, element_number, number_room}
use borrow.Author.Rules.{rules}
use Rattle.putting.proofs.put_number_element.Goals as goal

pub put_header-from-requires : goal.put_header-from-requires
put_header-from-requires c = let a = c.args in omega (arith, number_room a.syntax a.tag a.vr a.width a.x c.requires.1)

pub put_number-requires : goal.put_number-requires
put_number-requires c = let a = c.args in omega (arith, number_room a.syntax a.tag a.vr a.width a.x c.requires.1)

pub overflow_add-result : goal.overflow_add-result
overflow_add-result c =
    let a = c.args in let l = number_room a.syntax a.tag a.vr a.width a.x c.requires.1 in search rules

pub returns : goal.returns
returns c =
    let a = c.args in
    let l = number_room a.syntax a.tag a.vr a.width a.x c.requires.1 in (
      rw (element_number a.syntax a.tag a.vr a.width a.x c.requires.1)
          (laid_next a.out.now _ _ (header a.syntax a.tag a.vr a.width) (octets a.width a.x) a.at c.put_header-from.result (omega arith) c.put_header-from.ensures.1
          c.put_header-from.ensures.0 c.put_number.ensures),
      omega arith,
    )
