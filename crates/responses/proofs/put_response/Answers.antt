use native.Mathlib.Omega.{arith}
use Rattle.responses.proofs.Response.{group_length_size, response_laid}
use Rattle.responses.proofs.put_response.Goals as goal

pub put_ul-requires : goal.put_ul-requires
put_ul-requires c = rw group_length_size (omega arith)

pub returns : goal.returns
returns c =
    let a = c.args in
    let first = c.put_said_first-p in
    let then = c.put_said_then-stop in
    response_laid a.says.class.now a.says.field a.says.message a.with_data a.status a.says.instance.now a.says.action a.out.now _ _ _ first.result then.result (omega arith)
    first.ensures.0 first.ensures.1 first.ensures.2 then.ensures.0 then.ensures.1 then.ensures.2 c.put_ul.ensures.0
