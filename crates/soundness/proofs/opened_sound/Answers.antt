use borrow.Author.Tests.{le-leb, lt-leb, eq-eqb, ne_eqb}
use Rattle.choice.proofs.Picks.{both_only}
use Rattle.rules.specs.Layout.{opened_format}
use Rattle.rules.specs.Lists.{every}
use Rattle.rules.specs.Sound.{opened_sound}
use Rattle.soundness.proofs.opened_sound.Goals as goal

pub returns-then-live-gt1 : goal.returns-then-live-gt1
unfolding opened_sound opened_format every
returns-then-live-gt1 c = simp (lt-leb _ 1 c.if-live-gt1.true)

pub returns-then-live-ne0 : goal.returns-then-live-ne0
unfolding opened_sound opened_format
returns-then-live-ne0 c =
    simp (le-leb _ 1 c.if-live-gt1.false, ne_eqb _ _ c.if-live-ne0.true, ← c.open_sound.ensures)

pub returns-then-b-ne0 : goal.returns-then-b-ne0
unfolding opened_sound opened_format every
returns-then-b-ne0 c =
    simp (le-leb _ 1 c.if-live-gt1.false, eq-eqb _ _ c.if-live-ne0.false, ne_eqb _ _ c.if-b-ne0.true)

pub returns-then-b-ne0-2 : goal.returns-then-b-ne0-2
unfolding opened_sound opened_format every
returns-then-b-ne0-2 c =
    simp (le-leb _ 1 c.if-live-gt1.false, eq-eqb _ _ c.if-live-ne0.false, eq-eqb _ _ c.if-b-ne0.false, ne_eqb _ _ c.if-b-ne0-2.true)

pub returns : goal.returns
unfolding opened_sound opened_format every
returns c =
    simp (le-leb _ 1 c.if-live-gt1.false, eq-eqb _ _ c.if-live-ne0.false, eq-eqb _ _ c.if-b-ne0.false, eq-eqb _ _ c.if-b-ne0-2.false, ← c.u32_at.ensures.0, both_only)
