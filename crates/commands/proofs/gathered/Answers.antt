use native.Mathlib.Omega.{arith}
use Rattle.commands.proofs.Gathering.{whole_start, gathering_start, walk_done, walk_refused, walk_other, walk_past, walk_on}
use borrow.Author.Rules.{rules}
use Rattle.commands.proofs.gathered.Goals as goal

pub loop-parts-init : goal.loop-parts-init
loop-parts-init c = (search rules, whole_start _, gathering_start _)

pub returns-in-Some : goal.returns-in-Some
returns-in-Some c = walk_done _ _ _ _ c.loop-parts.invariant _ c.closing.ensures c.in-Some.is

pub tag_at-t-requires : goal.tag_at-t-requires
tag_at-t-requires c =
    let past = walk_past _ _ _ _ c.loop-parts.invariant _ c.closing.ensures c.in_default.is _ c.behind.ensures c.in-Ok.is in
    omega arith

pub returns-then-t-ge65536 : goal.returns-then-t-ge65536
returns-then-t-ge65536 c =
    walk_other _ _ _ _ c.loop-parts.invariant _ c.closing.ensures c.in_default.is _ c.behind.ensures c.in-Ok.is _ c.tag_at-t.ensures.0 c.if-t-ge65536.true

pub loop-parts-smaller : goal.loop-parts-smaller
loop-parts-smaller c =
    let past = walk_past _ _ _ _ c.loop-parts.invariant _ c.closing.ensures c.in_default.is _ c.behind.ensures c.in-Ok.is in
    omega arith

pub loop-parts-preserved : goal.loop-parts-preserved
loop-parts-preserved c =
    walk_on _ _ _ _ c.loop-parts.invariant _ c.closing.ensures c.in_default.is _ c.behind.ensures c.in-Ok.is _ c.tag_at-t.ensures.0 c.if-t-ge65536.false _ c.element_head-head.ensures _ c.slot-k.ensures.0 _ c.value_of.ensures

pub returns-in_default-behind : goal.returns-in_default-behind
returns-in_default-behind c =
    walk_refused _ _ _ _ c.loop-parts.invariant _ c.closing.ensures c.in_default.is _ c.behind.ensures c.in_default-behind.is
