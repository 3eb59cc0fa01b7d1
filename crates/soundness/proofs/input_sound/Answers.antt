use native.Mathlib.Omega.{arith}
use borrow.Author.Tests.{le-leb, lt-leb}
use Rattle.rules.specs.Layout.{opened_format, input_format}
use Rattle.rules.specs.Lists.{every}
use Rattle.rules.specs.Sound.{input_sound}
use Rattle.names.proofs.Tests.{told_most}
use Rattle.soundness.proofs.InPlace.{input_told}
use Rattle.soundness.proofs.input_sound.Goals as goal

pub returns-then-last_phase-b : goal.returns-then-last_phase-b
unfolding input_sound opened_format input_format every
returns-then-last_phase-b c =
    simp (← c.last_phase.ensures, lt-leb _ _ c.if-last_phase-b.true)

pub returns-then-used-gt-COMMAND : goal.returns-then-used-gt-COMMAND
unfolding input_sound opened_format input_format every
returns-then-used-gt-COMMAND c =
    simp (← c.last_phase.ensures, le-leb _ _ c.if-last_phase-b.false, ← c.u16_at-used.ensures.0, lt-leb _ _ c.if-used-gt-COMMAND.true)

pub phase_sound-requires : goal.phase_sound-requires
phase_sound-requires c = omega (arith, c.u16_at-used.ensures.0, c.if-used-gt-COMMAND.false)

pub returns-then-not-zeros_in : goal.returns-then-not-zeros_in
unfolding opened_format input_format
returns-then-not-zeros_in c =
    input_told c.args.b.now (omega (arith, c.type_inv.b)) c.u16_at-used.ensures.0 c.if-used-gt-COMMAND.false
    (told_most _ _ _ c.last_phase.ensures c.if-last_phase-b.false)
    (simp (← c.zeros_in.ensures, c.if-not-zeros_in.true))

pub returns : goal.returns
unfolding opened_format input_format
returns c =
    input_told c.args.b.now (omega (arith, c.type_inv.b)) c.u16_at-used.ensures.0 c.if-used-gt-COMMAND.false
    (told_most _ _ _ c.last_phase.ensures c.if-last_phase-b.false)
    (simp (← c.zeros_in.ensures, c.if-not-zeros_in.false, ← c.phase_sound.ensures))
