use Prim.Native.Nat.{◌≤◌}
use native.Mathlib.Omega.{arith}
use lib.ListN.{get_or}
use Rattle.octets.specs.Octets.{Bytes}
use Rattle.rules.specs.Layout.{queue_format}
use Rattle.records.specs.Places.{queue_place}
use Rattle.taking.proofs.Moved.{left_written}
use Rattle.taking.proofs.drop_oldest.Goals as goal

pub overflow_sub-count : goal.overflow_sub-count
unfolding queue_format
overflow_sub-count c =
    let some : 1 ≤ get_or c.args.records.now queue_place 0 = c.requires.1 in
    omega (arith, some)

pub returns : goal.returns
unfolding queue_format
returns c =
    let bytes : Bytes c.args.records.now = c.fits-records in
    left_written c.args.records.now bytes (omega (arith, c.told-records)) c.requires.0 c.requires.1 c.requires.2 _ _ _
    c.put_byte.ensures
    c.move_down.ensures
    c.put.ensures
