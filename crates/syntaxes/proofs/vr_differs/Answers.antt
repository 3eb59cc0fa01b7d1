use borrow.Author.Tests.{eq-eqb, ne_eqb}
use Rattle.choice.proofs.Picks.{nots}
use Rattle.tags.specs.Table.{differs}
use Rattle.tags.proofs.Entries.{given_none, given_some}
use Rattle.syntaxes.proofs.vr_differs.Goals as goal
use Rattle.syntaxes.proofs.vr_differs.Goals.{then-tag-eq2145386512, else-tag-eq2145386512}

pub returns-in_default : goal.returns-in_default
unfolding differs
returns-in_default c = simp (given_none _ c.in_default.ensures)

pub returns-after-tag-eq2145386512 : goal.returns-after-tag-eq2145386512
unfolding differs
returns-after-tag-eq2145386512 c =
    let named = given_some _ c.in-Some.ensures in
    elim c.if-tag-eq2145386512.branch [
      | then-tag-eq2145386512 w ↦ simp (nots, named.0, ne_eqb _ _ named.1, ne_eqb _ _ c.if-named-vr.true, eq-eqb _ _ w.if-tag-eq2145386512.true, w.result-is)
      | else-tag-eq2145386512 w ↦ simp (named.0, ne_eqb _ _ named.1, ne_eqb _ _ c.if-named-vr.true, ne_eqb _ _ w.if-tag-eq2145386512.false, w.result-is)
    ]

pub returns-else-named-vr : goal.returns-else-named-vr
unfolding differs
returns-else-named-vr c = let named = given_some _ c.in-Some.ensures in simp (named.0, ne_eqb _ _ named.1, eq-eqb _ _ c.if-named-vr.false)
