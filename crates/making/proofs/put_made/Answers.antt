use native.Mathlib.Omega.{arith}
use lib.ListN.{length-set}
use Rattle.uids.proofs.Decimal.{decimal_length}
use Rattle.uids.proofs.Made.{made_length}
use Rattle.making.proofs.Written.{made_written}
use borrow.Author.Rules.{rules}
use Rattle.making.proofs.put_made.Goals as goal

pub put_decimal-requires : goal.put_decimal-requires
put_decimal-requires c = rw length-set (omega (arith, decimal_length c.args.serial, c.put.auto.s))

pub returns : goal.returns
returns c = let a = c.args in
    let front = c.put in
    let digits = c.put_decimal in (
      made_written a.out.now front.new.s digits.new.out a.root.now a.at a.serial (search rules) front.ensures digits.ensures.0,
      omega (arith, digits.ensures.1, made_length a.root.now a.serial),
    )
