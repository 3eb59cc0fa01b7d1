use Prim.Native.Nat.{◌+◌}
use Rattle.responses.proofs.Response.{two_bytes}
use Rattle.responses.proofs.response_field.Goals as goal

pub returns : goal.returns
returns c = two_bytes (c.args.field + 0x8000)
