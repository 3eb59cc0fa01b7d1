use mathlib.Core.Path.{◌∙◌}
use Rattle.opening.proofs.Blank.{core_written_lem}
use native.Mathlib.Omega.{arith}
use Rattle.opening.proofs.put_core.Goals as goal

pub returns : goal.returns
returns c =
    c.put_no_input.ensures ∙ rw c.put.ensures (core_written_lem c.args.records.now (omega (arith, c.told-records)) c.args.core.now)
