use mathlib.Core.Path.{◌∙◌}
use borrow.Author.Tests.{le-ltb}
use Rattle.names.proofs.InPlace.{name_sent, name_beyond, name_made}
use Rattle.names.proofs.name_sound.Goals as goal

pub returns-then-made-eq0 : goal.returns-then-made-eq0
returns-then-made-eq0 c = name_sent c.args.b.now c.args.p c.requires.1 c.u32_at-made.ensures.0 c.if-made-eq0.true c.sent_sound.ensures

pub returns-then-made-next_at : goal.returns-then-made-next_at
returns-then-made-next_at c = name_made c.args.b.now c.args.p c.requires.1 c.u32_at-made.ensures.0 c.if-made-eq0.false c.next_at.ensures.0 c.if-made-next_at.true c.zeros_in.ensures

pub returns-else-made-next_at : goal.returns-else-made-next_at
returns-else-made-next_at c = le-ltb _ _ c.if-made-next_at.false ∙ name_beyond c.args.b.now c.args.p c.requires.1 c.u32_at-made.ensures.0 c.if-made-eq0.false c.next_at.ensures.0 c.if-made-next_at.false
