use Prim.Native.Nat.{◌-◌}
use native.Mathlib.Omega.{arith}
use borrow.Author.Tests.{lt-ltb, le-ltb, ne_eqb}
use Rattle.headers.specs.Header.{head_at, size_at, vr_at, length_at, vr_wrong}
use Rattle.syntaxes.proofs.implicit_head.Goals as goal

pub returns-then-tag-floor : goal.returns-then-tag-floor
unfolding head_at size_at vr_at length_at vr_wrong
returns-then-tag-floor c =
    simp (le-ltb (c.args.end - c.args.at) 8 (omega arith), ne_eqb _ _ c.requires.2, ← c.tag_at-tag.ensures.0, lt-ltb _ _ c.if-tag-floor.true)

pub returns : goal.returns
unfolding head_at size_at vr_at length_at vr_wrong
returns c =
    simp (le-ltb (c.args.end - c.args.at) 8 (omega arith), ne_eqb _ _ c.requires.2, ← c.tag_at-tag.ensures.0, le-ltb _ _ c.if-tag-floor.false, ← c.u32_at-length.ensures.0, ← c.implicit_vr.ensures, ← c.length_head.ensures)
