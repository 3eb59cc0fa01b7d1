use native.Mathlib.Omega.{arith}
use Rattle.octets.specs.Octets.{Bytes}
use Rattle.rules.specs.Layout.{picture_format, entry_format}
use Rattle.taking.proofs.Entry.{entry_laid}
use Rattle.taking.proofs.put_oldest.Goals as goal

pub overflow_cast-records : goal.overflow_cast-records
overflow_cast-records c =
    let bytes : Bytes c.args.records.now = c.fits-records in
    omega (arith, bytes 2740)

pub returns : goal.returns
unfolding entry_format picture_format
returns c =
    let bytes : Bytes c.args.records.now = c.fits-records in
    entry_laid c.args.records.now bytes (omega (arith, c.told-records)) _ _ _ _ _ c.requires.0
    c.put.ensures
    c.put_number.ensures
    c.uid_filled-uid.ensures
    c.put-2.ensures
