use borrow.Author.Tests.{lt-ltb, le-ltb, eq-eqb, ne_eqb}
use Rattle.headers.specs.Header.{close_at}
use Rattle.headers.proofs.closing.Goals as goal
use Rattle.headers.proofs.closing.Goals.{then-inside-at-lt8-via-then-inside-at-lt8, then-inside-at-lt8-via-else-inside-at-lt8+then-tag_at-mark, then-inside-at-lt8-via-else-inside-at-lt8+else-tag_at-mark+then-u32_at-ne0}

pub returns-then-inside-at-lt8 : goal.returns-then-inside-at-lt8
unfolding close_at
returns-then-inside-at-lt8 c =
    elim c.then-inside-at-lt8.branch [
      | then-inside-at-lt8-via-then-inside-at-lt8 w ↦ simp (c.if-inside.true, lt-ltb _ _ w.if-inside-at-lt8.true)
      | then-inside-at-lt8-via-else-inside-at-lt8+then-tag_at-mark w ↦
          simp (c.if-inside.true, le-ltb _ _ w.if-inside-at-lt8.false, ← w.tag_at.ensures.0, ne_eqb _ _ w.if-tag_at-mark.true)
      | then-inside-at-lt8-via-else-inside-at-lt8+else-tag_at-mark+then-u32_at-ne0 w ↦
          simp (c.if-inside.true, le-ltb _ _ w.if-inside-at-lt8.false, ← w.tag_at.ensures.0, eq-eqb _ _ w.if-tag_at-mark.false, ← w.u32_at.ensures.0, ne_eqb _ _ w.if-u32_at-ne0.true)
    ]

pub returns-then-inside : goal.returns-then-inside
unfolding close_at
returns-then-inside c = simp (c.if-inside.true, le-ltb _ _ c.if-inside-at-lt8.false, ← c.tag_at.ensures.0, eq-eqb _ _ c.if-tag_at-mark.false, ← c.u32_at.ensures.0, eq-eqb _ _ c.if-u32_at-ne0.false)

pub returns-then-at-inside : goal.returns-then-at-inside
unfolding close_at
returns-then-at-inside c = simp (c.if-inside.false, lt-ltb _ _ c.if-at-inside.true)

pub returns : goal.returns
unfolding close_at
returns c = simp (c.if-inside.false, le-ltb _ _ c.if-at-inside.false)
