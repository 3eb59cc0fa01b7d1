use Rattle.std.proofs.Common.{sym, ◌∙◌}
use Rattle.printing.proofs.Positions.{picture_here, picture_on_lem, picture_none}
use Rattle.printing.proofs.picture_on.Goals as goal

pub returns-then-stands_at : goal.returns-then-stands_at
returns-then-stands_at c = let o = c.loop-b in
    sym (o.invariant ∙ picture_here c.args.position c.args.boxes.now o.b-index _ c.loop-b-test.true (sym c.stands_at.ensures ∙ c.if-stands_at.true))

pub loop-b-preserved : goal.loop-b-preserved
loop-b-preserved c = let o = c.loop-b in
    o.invariant ∙ picture_on_lem c.args.position c.args.boxes.now o.b-index _ c.loop-b-test.true (sym c.stands_at.ensures ∙ c.if-stands_at.false)

pub returns : goal.returns
returns c = let o = c.loop-b in
    sym (o.invariant ∙ picture_none c.args.position c.args.boxes.now o.b-index c.loop-b-test.false)
