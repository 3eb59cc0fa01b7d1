use mathlib.Core.Path.{ap, ◌∙◌}
use mathlib.Core.Bool.{not}
use borrow.Author.Tests.{eq-eqb}
use Rattle.instances.proofs.InPlace.{session_dead, session_live_lem}
use Rattle.instances.proofs.is_session.Goals as goal

pub returns-then-b-ne0 : goal.returns-then-b-ne0
returns-then-b-ne0 c = c.is_name.ensures ∙ session_live_lem c.args.b.now c.args.uid.now c.if-b-ne0.true

pub returns-else-b-ne0 : goal.returns-else-b-ne0
returns-else-b-ne0 c = ap not (eq-eqb _ _ c.if-b-ne0.false) ∙ session_dead c.args.b.now c.args.uid.now c.if-b-ne0.false
