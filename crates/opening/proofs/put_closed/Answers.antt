use native.Mathlib.Omega.{arith}
use Rattle.octets.specs.Octets.{Bytes}
use Rattle.opening.proofs.Blank.{closed_written}
use Rattle.opening.proofs.put_closed.Goals as goal

pub returns : goal.returns
returns c =
    let bytes : Bytes c.args.records.now = c.fits-records in
    closed_written c.args.records.now (omega (arith, c.told-records)) bytes _ c.put_zeros.ensures _ c.put_zeros-2.ensures
