use Rattle.soundness.proofs.InPlace.{state_told}
use Rattle.soundness.proofs.state_sound.Goals as goal

pub returns-then-core_sound : goal.returns-then-core_sound
returns-then-core_sound c = state_told c.args.b.now (simp (← c.core_sound.ensures, c.if-core_sound.true, ← c.input_sound.ensures))

pub returns-else-core_sound : goal.returns-else-core_sound
returns-else-core_sound c = state_told c.args.b.now (simp (← c.core_sound.ensures, c.if-core_sound.false))
