use Rattle.std.proofs.Common.{sym, ◌∙◌}
use Rattle.printing.proofs.Rest.{rest_all}
use Rattle.printing.proofs.Positions.{collide_here, collide_on, collide_none}
use Rattle.printing.proofs.boxes_collide.Goals as goal

pub returns-then-repeats : goal.returns-then-repeats
returns-then-repeats c = let o = c.loop-i in
    sym (o.invariant ∙ collide_here c.args.boxes.now o.i _ c.loop-i-test.true (rw rest_all at (sym c.repeats.ensures ∙ c.if-repeats.true)))

pub loop-i-preserved : goal.loop-i-preserved
loop-i-preserved c = let o = c.loop-i in
    o.invariant ∙ collide_on c.args.boxes.now o.i _ c.loop-i-test.true (rw rest_all at (sym c.repeats.ensures ∙ c.if-repeats.false))

pub returns : goal.returns
returns c = let o = c.loop-i in
    sym (o.invariant ∙ collide_none c.args.boxes.now o.i c.loop-i-test.false)
