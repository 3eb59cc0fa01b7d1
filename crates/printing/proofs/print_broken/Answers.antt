use Rattle.printing.proofs.print_broken.Goals as goal

pub returns-then-colliding : goal.returns-then-colliding
returns-then-colliding c = simp c.if-colliding.true

pub returns-then-full : goal.returns-then-full
returns-then-full c = simp (c.if-colliding.false, c.if-full.true)

pub returns : goal.returns
returns c = simp (c.if-colliding.false, c.if-full.false)
