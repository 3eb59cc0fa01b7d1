use borrow.Author.Tests.{eq-eqb, ne_eqb}
use Rattle.putting.proofs.pad.Goals as goal

pub returns-then-vr : goal.returns-then-vr
returns-then-vr c = simp (eq-eqb _ _ c.if-vr.true)

pub returns : goal.returns
returns c = simp (ne_eqb _ _ c.if-vr.false)
