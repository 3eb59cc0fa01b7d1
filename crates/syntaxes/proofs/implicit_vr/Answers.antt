use borrow.Author.Tests.{eq-eqb, ne_eqb}
use Rattle.tags.specs.Table.{implicit_vr}
use Rattle.tags.proofs.Entries.{given_none, given_some}
use Rattle.syntaxes.proofs.implicit_vr.Goals as goal

pub returns-in-Some : goal.returns-in-Some
unfolding implicit_vr
returns-in-Some c = let named = given_some _ c.in-Some.ensures in simp (named.0, ne_eqb _ _ named.1)

pub returns-then-length-eq4294967295 : goal.returns-then-length-eq4294967295
unfolding implicit_vr
returns-then-length-eq4294967295 c = simp (given_none _ c.in_default.ensures, eq-eqb _ _ c.if-length-eq4294967295.true)

pub returns : goal.returns
unfolding implicit_vr
returns c = simp (given_none _ c.in_default.ensures, ne_eqb _ _ c.if-length-eq4294967295.false)
