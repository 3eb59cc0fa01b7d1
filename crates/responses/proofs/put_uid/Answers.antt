use mathlib.Core.Path.{sym}
use native.Mathlib.Omega.{arith}
use Rattle.octets.proofs.Laid.{laid_none}
use Rattle.writing.specs.Bytes.{header_size}
use Rattle.writing.proofs.Sizes.{element_length}
use Rattle.responses.proofs.Response.{uid_size, uid_none, uid_some}
use Rattle.responses.proofs.put_uid.Goals as goal

pub returns-then-uid-eq0 : goal.returns-then-uid-eq0
returns-then-uid-eq0 c = let a = c.args in
    rw (uid_none a.tag a.uid.now c.if-uid-eq0.true) (sym (laid_none a.out.now a.at), omega arith, omega arith)

pub put_element-requires : goal.put_element-requires
unfolding header_size
put_element-requires c = rw element_length (omega arith)

pub returns : goal.returns
returns c =
    let a = c.args in
    let e = c.put_element.ensures in
    let l = uid_size a.tag a.uid.now (omega arith) in
    rw (uid_some a.tag a.uid.now c.if-uid-eq0.false) (e.0, e.1, omega arith)
