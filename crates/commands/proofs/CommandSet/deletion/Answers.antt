use mathlib.Core.Path.{◌∙◌}
use Rattle.commands.specs.Requests.{deletion_in, known_as, target_in}
use Rattle.commands.proofs.CommandSet.deletion.Goals as goal

pub returns-then-not-has_target : goal.returns-then-not-has_target
unfolding deletion_in known_as target_in
returns-then-not-has_target c = simp (← c.has_target.ensures, c.if-not-has_target.true)

pub returns : goal.returns
unfolding deletion_in known_as target_in
returns c = c.known.ensures ∙ simp (← c.has_target.ensures, c.if-not-has_target.false, ← c.target.ensures)
