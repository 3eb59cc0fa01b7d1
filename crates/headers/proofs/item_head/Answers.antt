use borrow.Author.Tests.{lt-ltb, le-ltb, eq-eqb, ne_eqb}
use Rattle.headers.specs.Header.{item_head_at}
use Rattle.headers.proofs.item_head.Goals as goal

pub returns-then-end-at-lt8 : goal.returns-then-end-at-lt8
unfolding item_head_at
returns-then-end-at-lt8 c = simp (lt-ltb _ _ c.if-end-at-lt8.true)

pub returns-then-tag_at-ne4294893568 : goal.returns-then-tag_at-ne4294893568
unfolding item_head_at
returns-then-tag_at-ne4294893568 c = simp (le-ltb _ _ c.if-end-at-lt8.false, ← c.tag_at.ensures.0, ne_eqb _ _ c.if-tag_at-ne4294893568.true)

pub returns : goal.returns
unfolding item_head_at
returns c = simp (le-ltb _ _ c.if-end-at-lt8.false, ← c.tag_at.ensures.0, eq-eqb _ _ c.if-tag_at-ne4294893568.false, ← c.u32_at.ensures.0, ← c.length_head.ensures)
