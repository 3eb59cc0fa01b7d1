use mathlib.Core.Path.{◌≡◌, ap, ◌∙◌}
use native.Mathlib.Omega.{arith}
use lib.ListN.{length, length-take}
use Rattle.rules.specs.Lists.{sum}
use Rattle.layouts.proofs.Sums.{sum_turn, sum_done}
use borrow.Author.Rules.{rules}
use Rattle.layouts.proofs.sum_of.Goals as goal

pub overflow_add-v : goal.overflow_add-v
overflow_add-v c =
    let m : length c.args.a ≡ 6 = search rules in
    omega (arith, m, ap length c.front-x-items.ensures, length-take c.args.n c.args.a, c.type_inv.x-items c.loop-x.x-index, c.from-v.ensures)

pub loop-x-preserved : goal.loop-x-preserved
loop-x-preserved c =
    let o = c.loop-x in
    (omega (arith, c.type_inv.x-items o.x-index, c.from-v.ensures), rw c.from-v.ensures (sum_turn _ o.x-index o.v c.loop-x-test.true o.invariant.1))

pub returns : goal.returns
returns c =
    let o = c.loop-x in
    let m : length c.args.a ≡ 6 = search rules in
    (sum_done _ o.x-index o.v c.loop-x-test.false o.invariant.1 ∙ ap sum c.front-x-items.ensures, omega (arith, m, ap length c.front-x-items.ensures, length-take c.args.n c.args.a))
