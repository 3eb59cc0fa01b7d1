use native.Mathlib.Omega.{arith}
use Rattle.responses.proofs.Film.{sequence_explicit, sequence_implicit}
use Rattle.responses.proofs.sequence_header.Goals as goal

pub returns-in-Implicit : goal.returns-in-Implicit
returns-in-Implicit c = let e = sequence_implicit c.args.syntax c.in-Implicit.is in (omega arith, omega arith)

pub returns-in-Explicit : goal.returns-in-Explicit
returns-in-Explicit c = let e = sequence_explicit c.args.syntax c.in-Explicit.is in (omega arith, omega arith)
