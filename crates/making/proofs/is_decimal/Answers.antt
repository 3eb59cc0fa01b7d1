use mathlib.Core.Path.{◌≡◌, sym, ◌∙◌}
use native.Mathlib.Omega.{arith}
use lib.ListN.{length}
use borrow.Author.Tests.{lt-ltb, le-ltb, eq-eqb, ne_eqb}
use borrow.Author.Rules.{rules}
use Rattle.making.proofs.Compared.{digit_turn, no_digits}
use Rattle.making.proofs.is_decimal.Goals as goal

pub loop-i-init : goal.loop-i-init
loop-i-init c = search rules

pub returns-then-c-digit : goal.returns-then-c-digit
returns-then-c-digit c =
    let o = c.loop-i in
    let k = c.in-Some.ensures.steps.1 in
    sym (o.invariant.2 ∙ digit_turn _ _ _ o.rest k.0 (omega arith) ∙ rw (← c.digit.ensures, ne_eqb _ _ c.if-c-digit.true))

pub returns-then-rest-lt10 : goal.returns-then-rest-lt10
returns-then-rest-lt10 c =
    let o = c.loop-i in
    let k = c.in-Some.ensures.steps.1 in
    let n : length c.next.new.self.iter.iter.rest.now ≡ c.in-Some.i = omega (arith, k.1, o.invariant.0) in
    sym (o.invariant.2 ∙ digit_turn _ _ _ o.rest k.0 (omega arith) ∙ rw (← c.digit.ensures, eq-eqb _ _ c.if-c-digit.false, lt-ltb _ _ c.if-rest-lt10.true, n))

pub loop-i-preserved : goal.loop-i-preserved
loop-i-preserved c =
    let o = c.loop-i in
    let k = c.in-Some.ensures.steps in (
      k.0 ∙ o.invariant.0,
      omega arith,
      o.invariant.2 ∙ digit_turn _ _ _ o.rest k.1.0 (omega arith) ∙ rw (← c.digit.ensures, eq-eqb _ _ c.if-c-digit.false, le-ltb _ _ c.if-rest-lt10.false),
    )

pub returns : goal.returns
returns c =
    let o = c.loop-i in
    let n : length o.i-iterator.iter.iter.rest.now ≡ 0 = search rules in
    sym (o.invariant.2 ∙ no_digits _ o.rest n (omega arith))
