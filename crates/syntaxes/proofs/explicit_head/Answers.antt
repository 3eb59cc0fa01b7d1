use mathlib.Core.Path.{◌∙◌}
use Prim.Native.Nat.{◌-◌}
use native.Mathlib.Omega.{arith}
use borrow.Author.Tests.{lt-ltb, le-ltb, ne_eqb, eqb-true}
use Rattle.headers.specs.Header.{head_at, size_at, vr_at, length_at, vr_wrong}
use Rattle.tags.proofs.Entries.{is_given, is_not_given}
use borrow.Author.Rules.{rules}
use Rattle.syntaxes.proofs.explicit_head.Goals as goal
use Rattle.syntaxes.proofs.explicit_head.Goals.{then-is_none-via-then-is_none, then-is_none-via-else-is_none+then-vr_differs}

pub long_head-requires : goal.long_head-requires
long_head-requires c =
    let long = is_given _ 12 (omega arith) c.form_of-form.ensures c.eq.ensures ∙ c.if-eq.true in
    record { in_place = search rules; long_form = rw c.u16_at-vr.ensures.0 at (eqb-true _ _ long) }

pub returns-then-tag-floor : goal.returns-then-tag-floor
unfolding head_at size_at vr_at length_at vr_wrong
returns-then-tag-floor c =
    let short = is_given _ 12 (omega arith) c.form_of-form.ensures c.eq.ensures ∙ c.if-eq.false in
    simp (le-ltb (c.args.end - c.args.at) 8 (omega arith), ne_eqb _ _ c.requires.2, ← c.u16_at-vr.ensures.0, short, ← c.tag_at-tag.ensures.0, lt-ltb _ _ c.if-tag-floor.true)

pub returns-then-is_none : goal.returns-then-is_none
unfolding head_at size_at vr_at length_at vr_wrong
returns-then-is_none c =
    let short = is_given _ 12 (omega arith) c.form_of-form.ensures c.eq.ensures ∙ c.if-eq.false in
    let known = is_not_given _ c.form_of-form.ensures c.is_none.ensures in
    elim c.then-is_none.branch [
      | then-is_none-via-then-is_none w ↦
          simp (le-ltb (c.args.end - c.args.at) 8 (omega arith), ne_eqb _ _ c.requires.2, ← c.u16_at-vr.ensures.0, short, ← c.tag_at-tag.ensures.0, le-ltb _ _ c.if-tag-floor.false, known, w.if-is_none.true)
      | then-is_none-via-else-is_none+then-vr_differs w ↦
          simp (le-ltb (c.args.end - c.args.at) 8 (omega arith), ne_eqb _ _ c.requires.2, ← c.u16_at-vr.ensures.0, short, ← c.tag_at-tag.ensures.0, le-ltb _ _ c.if-tag-floor.false, known, w.if-is_none.false, ← w.vr_differs.ensures, w.if-vr_differs.true)
    ]

pub returns : goal.returns
unfolding head_at size_at vr_at length_at vr_wrong
returns c =
    let short = is_given _ 12 (omega arith) c.form_of-form.ensures c.eq.ensures ∙ c.if-eq.false in
    let known = is_not_given _ c.form_of-form.ensures c.is_none.ensures ∙ c.if-is_none.false in
    simp (le-ltb (c.args.end - c.args.at) 8 (omega arith), ne_eqb _ _ c.requires.2, ← c.u16_at-vr.ensures.0, short, ← c.tag_at-tag.ensures.0, le-ltb _ _ c.if-tag-floor.false, known, ← c.vr_differs.ensures, c.if-vr_differs.false, ← c.u16_at.ensures.0, ← c.length_head.ensures)
