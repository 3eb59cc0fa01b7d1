use borrow.Author.Tests.{eq-eqb, ne_eqb}
use Rattle.headers.specs.Header.{syntax_of}
use Rattle.headers.proofs.syntax_of.Goals as goal

pub returns-then-number-eq2 : goal.returns-then-number-eq2
unfolding syntax_of
returns-then-number-eq2 c = simp (eq-eqb _ _ c.if-number-eq2.true)

pub returns : goal.returns
unfolding syntax_of
returns c = simp (ne_eqb _ _ c.if-number-eq2.false)
