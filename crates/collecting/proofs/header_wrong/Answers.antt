use mathlib.Core.Path.{sym, ◌∙◌}
use native.Mathlib.Omega.{arith}
use Rattle.collecting.proofs.Headers.{too_short, told_small, told_other, context_other, control_told}
use Rattle.collecting.proofs.header_wrong.Goals as goal

pub returns-then-given-lt6 : goal.returns-then-given-lt6
returns-then-given-lt6 c = let a = c.args in too_short a.context a.fragment.now c.if-given-lt6.true

pub returns-then-n-lt2 : goal.returns-then-n-lt2
returns-then-n-lt2 c =
    let a = c.args in
    told_small a.context a.fragment.now c.if-given-lt6.false (omega (arith, c.if-n-lt2.true, c.big_number_at-n.ensures.0))

pub returns-then-n-given : goal.returns-then-n-given
returns-then-n-given c =
    let a = c.args in
    let n = c.big_number_at-n.ensures.0 in
    told_other a.context a.fragment.now c.if-given-lt6.false (omega (arith, c.if-n-lt2.false, n)) (λ e. c.if-n-given.true (n ∙ e))

pub returns-then-fragment-context : goal.returns-then-fragment-context
returns-then-fragment-context c =
    let a = c.args in
    let n = c.big_number_at-n.ensures.0 in
    context_other a.context a.fragment.now c.if-given-lt6.false (omega (arith, c.if-n-lt2.false, n)) (sym n ∙ c.if-n-given.false) c.if-fragment-context.true

pub returns : goal.returns
returns c =
    let n = c.big_number_at-n.ensures.0 in
    control_told c.args.context c.args.fragment.now c.if-given-lt6.false (omega (arith, c.if-n-lt2.false, n)) (sym n ∙ c.if-n-given.false) c.if-fragment-context.false
