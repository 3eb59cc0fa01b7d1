use Prim.Native.Nat.{◌+◌}
use native.Mathlib.Omega.{arith}
use lib.ListN.{length-append}
use Rattle.writing.proofs.Chain.{laid_next_two}
use Rattle.responses.specs.Parts.{number_bytes, uid_bytes, said_first}
use Rattle.responses.proofs.Response.{number_size}
use Rattle.responses.proofs.put_said_first.Goals as goal

pub returns : goal.returns
unfolding said_first
returns c =
    let a = c.args in
    let class = c.put_uid-p in
    let field = c.put_short-q in
    let message = c.put_short in
    let l = number_size 0x0000_0100 (a.field + 0x8000) in
    let k = number_size 0x0000_0120 a.message in (
      laid_next_two a.out.now _ _ _ (uid_bytes 0x0000_0002 a.class.now) (number_bytes 0x0000_0100 (a.field + 0x8000)) (number_bytes 0x0000_0120 a.message) 12 class.result field.result (omega arith) class.ensures.1 (omega arith)
          class.ensures.0 (rw c.response_field.ensures at field.ensures.0) message.ensures.0,
      simp length-append (omega arith),
      omega arith,
    )
