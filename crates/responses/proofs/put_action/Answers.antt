use mathlib.Core.Path.{sym}
use native.Mathlib.Omega.{arith}
use Rattle.octets.proofs.Laid.{laid_none}
use Rattle.responses.proofs.Response.{number_size}
use Rattle.responses.proofs.put_action.Goals as goal

pub returns-in-Some : goal.returns-in-Some
returns-in-Some c =
    let e = c.put_short.ensures in
    rw c.in-Some.is (e.0, omega (arith, e.1, number_size 0x0000_1008 c.in-Some.kind))

pub returns-in-None : goal.returns-in-None
returns-in-None c = let a = c.args in
    rw c.in-None.is (sym (laid_none a.out.now a.at), omega arith)
