use mathlib.Core.Path.{◌∙◌}
use native.Mathlib.Omega.{arith}
use Rattle.octets.specs.Octets.{Bytes}
use Rattle.rules.specs.Calls.{opened}
use Rattle.opening.proofs.Blank.{open_written}
use Rattle.opening.proofs.put_open.Goals as goal

pub returns : goal.returns
unfolding opened
returns c =
    let bytes : Bytes c.args.records.now = c.fits-records in
    c.put_no_input.ensures ∙ rw c.put.ensures (open_written c.args.records.now (omega (arith, c.told-records)) bytes _)
