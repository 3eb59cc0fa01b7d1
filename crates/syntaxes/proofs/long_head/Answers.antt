use borrow.Author.Tests.{lt-ltb, le-ltb, eq-eqb, ne_eqb}
use Rattle.headers.specs.Header.{head_at, size_at, vr_at, length_at, vr_wrong}
use Rattle.syntaxes.proofs.long_head.Goals as goal

pub returns-then-end-at-lt12 : goal.returns-then-end-at-lt12
unfolding head_at size_at vr_at length_at vr_wrong
returns-then-end-at-lt12 c = simp (ne_eqb _ _ c.requires.in_place.2, c.requires.long_form, lt-ltb _ _ c.if-end-at-lt12.true)

pub returns-then-tag-floor : goal.returns-then-tag-floor
unfolding head_at size_at vr_at length_at vr_wrong
returns-then-tag-floor c = simp (ne_eqb _ _ c.requires.in_place.2, c.requires.long_form, le-ltb _ _ c.if-end-at-lt12.false, ← c.tag_at-tag.ensures.0, lt-ltb _ _ c.if-tag-floor.true)

pub returns-then-u16_at-ne0 : goal.returns-then-u16_at-ne0
unfolding head_at size_at vr_at length_at vr_wrong
returns-then-u16_at-ne0 c = simp (ne_eqb _ _ c.requires.in_place.2, c.requires.long_form, le-ltb _ _ c.if-end-at-lt12.false, ← c.tag_at-tag.ensures.0, le-ltb _ _ c.if-tag-floor.false, ← c.u16_at.ensures.0, ne_eqb _ _ c.if-u16_at-ne0.true)

pub returns-then-vr_differs : goal.returns-then-vr_differs
unfolding head_at size_at vr_at length_at vr_wrong
returns-then-vr_differs c =
    simp (ne_eqb _ _ c.requires.in_place.2, c.requires.long_form, le-ltb _ _ c.if-end-at-lt12.false, ← c.tag_at-tag.ensures.0, le-ltb _ _ c.if-tag-floor.false, ← c.u16_at.ensures.0, eq-eqb _ _ c.if-u16_at-ne0.false, ← c.u16_at-vr.ensures.0, ← c.vr_differs.ensures, c.if-vr_differs.true)

pub returns : goal.returns
unfolding head_at size_at vr_at length_at vr_wrong
returns c =
    simp (ne_eqb _ _ c.requires.in_place.2, c.requires.long_form, le-ltb _ _ c.if-end-at-lt12.false, ← c.tag_at-tag.ensures.0, le-ltb _ _ c.if-tag-floor.false, ← c.u16_at.ensures.0, eq-eqb _ _ c.if-u16_at-ne0.false, ← c.u16_at-vr.ensures.0, ← c.vr_differs.ensures, c.if-vr_differs.false, ← c.u32_at.ensures.0, ← c.length_head.ensures)
