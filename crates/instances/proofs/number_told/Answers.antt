use mathlib.Core.Path.{refl}
use borrow.Author.Rules.{rules}
use Rattle.instances.proofs.Serials.{told_turn, told_end}
use Rattle.instances.proofs.number_told.Goals as goal

pub loop-d-init : goal.loop-d-init
loop-d-init c = (search rules, refl)

pub loop-d-preserved : goal.loop-d-preserved
loop-d-preserved c =
    let o = c.loop-d in
    (search rules, told_turn c.args.s.now o.d-index o.v _ (search rules) c.from.ensures o.invariant.1)

pub returns : goal.returns
returns c =
    let o = c.loop-d in
    (told_end c.args.s.now o.d-index o.v c.loop-d-test.false o.invariant.1, o.invariant.0)
