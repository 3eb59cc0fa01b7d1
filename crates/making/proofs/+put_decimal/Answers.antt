use Rattle.std.proofs.Common.{arith, rules}
use Rattle.making.proofs.Written.{one_length, more_length, one_written, more_written}
use Rattle.making.proofs.+put_decimal.Goals as goal

pub bounds-out-at : goal.bounds-out-at
bounds-out-at t c = omega (arith, one_length c.args.n c.if-n-lt10.true)

pub returns-then-n-lt10 : goal.returns-then-n-lt10
returns-then-n-lt10 t c =
    let a = c.args in
    let long = one_length a.n c.if-n-lt10.true in
    (one_written a.out.now a.at a.n c.digit.result c.if-n-lt10.true (omega (arith, long)) c.digit.ensures, omega (arith, long))

pub put_decimal-last-requires : goal.put_decimal-last-requires
put_decimal-last-requires t c =
    let a = c.args in
    (omega arith, omega (arith, more_length a.n c.if-n-lt10.false (search rules)))

pub bounds-out-last : goal.bounds-out-last
bounds-out-last t c =
    let a = c.args in
    let f = c.put_decimal-last in
    omega (arith, more_length a.n c.if-n-lt10.false (search rules), f.auto.out, f.ensures.1)

pub returns : goal.returns
returns t c =
    let a = c.args in
    let f = c.put_decimal-last in
    let h = c.if-n-lt10.false in
    (more_written a.out.now f.new.out a.at f.result a.n c.digit-2.result h (search rules) c.requires f.ensures.0 f.ensures.1 c.digit-2.ensures, omega (arith, more_length a.n h (search rules), f.ensures.1))
