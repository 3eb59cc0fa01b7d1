use native.Mathlib.Omega.{arith}
use Rattle.responses.proofs.Response.{number_size}
use Rattle.responses.proofs.put_short.Goals as goal

pub put_us-requires : goal.put_us-requires
put_us-requires c = omega (arith, number_size c.args.tag c.args.x)

pub returns : goal.returns
returns c = let a = c.args in
    (c.put_us.ensures.0, omega (arith, number_size a.tag a.x))
