use borrow.Author.Tests.{lt-ltb, le-ltb, eq-eqb, ne_eqb}
use Rattle.headers.specs.Header.{length_head}
use Rattle.headers.proofs.length_head.Goals as goal

pub returns-then-vr : goal.returns-then-vr
unfolding length_head
returns-then-vr c = simp (eq-eqb _ _ c.if-length-eq4294967295.true, ne_eqb _ _ c.if-vr.true)

pub returns-then-length-eq4294967295 : goal.returns-then-length-eq4294967295
unfolding length_head
returns-then-length-eq4294967295 c = simp (eq-eqb _ _ c.if-length-eq4294967295.true, eq-eqb _ _ c.if-vr.false)

pub returns-then-length-eq1 : goal.returns-then-length-eq1
unfolding length_head
returns-then-length-eq1 c = simp (ne_eqb _ _ c.if-length-eq4294967295.false, eq-eqb _ _ c.if-length-eq1.true)

pub returns-then-end-from : goal.returns-then-end-from
unfolding length_head
returns-then-end-from c = simp (ne_eqb _ _ c.if-length-eq4294967295.false, ne_eqb _ _ c.if-length-eq1.false, lt-ltb _ _ c.if-end-from.true)

pub returns-then-vr-2 : goal.returns-then-vr-2
unfolding length_head
returns-then-vr-2 c = simp (ne_eqb _ _ c.if-length-eq4294967295.false, ne_eqb _ _ c.if-length-eq1.false, le-ltb _ _ c.if-end-from.false, eq-eqb _ _ c.if-vr-2.true)

pub returns : goal.returns
unfolding length_head
returns c = simp (ne_eqb _ _ c.if-length-eq4294967295.false, ne_eqb _ _ c.if-length-eq1.false, le-ltb _ _ c.if-end-from.false, ne_eqb _ _ c.if-vr-2.false)
