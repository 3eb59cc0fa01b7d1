use borrow.Author.Tests.{eq-eqb, ne_eqb}
use borrow.Author.Rules.{rules}
use Rattle.distinct.proofs.own_count.Goals as goal

pub returns-then-made-eq0 : goal.returns-then-made-eq0
returns-then-made-eq0 c = (simp (eq-eqb _ _ c.if-made-eq0.true), search rules)

pub returns-else-made-eq0 : goal.returns-else-made-eq0
returns-else-made-eq0 c = (simp (ne_eqb _ _ c.if-made-eq0.false), search rules)
