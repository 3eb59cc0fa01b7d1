use borrow.Author.Tests.{le-leb, lt-leb, eq-eqb, ne_eqb}
use Rattle.choice.proofs.Picks.{both_only, both_fails}
use Rattle.rules.specs.Layout.{opened_format, input_format}
use Rattle.soundness.proofs.phase_sound.Goals as goal

pub returns-then-phase-eq1 : goal.returns-then-phase-eq1
unfolding opened_format input_format
returns-then-phase-eq1 c = simp (eq-eqb _ _ c.if-phase-eq1.true, ← c.u32_at-got.ensures.0)

pub returns-then-u32_at-got : goal.returns-then-u32_at-got
unfolding opened_format input_format
returns-then-u32_at-got c =
    simp (ne_eqb _ _ c.if-phase-eq1.false, eq-eqb _ _ c.if-phase-eq3.true, ← c.u32_at-got.ensures.0, ← c.u32_at.ensures.0, lt-leb _ _ c.if-u32_at-got.true, both_fails)

pub returns-then-phase-eq3 : goal.returns-then-phase-eq3
unfolding opened_format input_format
returns-then-phase-eq3 c =
    simp (ne_eqb _ _ c.if-phase-eq1.false, eq-eqb _ _ c.if-phase-eq3.true, ← c.u32_at-got.ensures.0, ← c.u32_at.ensures.0, le-leb _ _ c.if-u32_at-got.false, ← c.held_readable.ensures, both_only)

pub returns-then-got-ne0 : goal.returns-then-got-ne0
unfolding opened_format input_format
returns-then-got-ne0 c =
    simp (ne_eqb _ _ c.if-phase-eq1.false, ne_eqb _ _ c.if-phase-eq3.false, eq-eqb _ _ c.if-phase-eq4.true, ← c.u32_at-got.ensures.0, ne_eqb _ _ c.if-got-ne0.true, both_fails)

pub returns-then-phase-eq4 : goal.returns-then-phase-eq4
unfolding opened_format input_format
returns-then-phase-eq4 c =
    simp (ne_eqb _ _ c.if-phase-eq1.false, ne_eqb _ _ c.if-phase-eq3.false, eq-eqb _ _ c.if-phase-eq4.true, ← c.u32_at-got.ensures.0, eq-eqb _ _ c.if-got-ne0.false, ← c.held_readable-then-phase-eq4.ensures, both_only)

pub returns : goal.returns
unfolding opened_format input_format
returns c =
    simp (ne_eqb _ _ c.if-phase-eq1.false, ne_eqb _ _ c.if-phase-eq3.false, ne_eqb _ _ c.if-phase-eq4.false, ← c.u32_at-got.ensures.0, ← c.u16_at.ensures.0, ← c.holds_nothing.ensures)
