use mathlib.Core.Path.{sym, ◌∙◌}
use Rattle.records.specs.Places.{held_in}
use Rattle.collecting.proofs.Outcomes.{before_used, before_unused}
use borrow.Author.Rules.{rules}
use Rattle.collecting.proofs.used_before.Goals as goal

pub returns-then-phase-eq1 : goal.returns-then-phase-eq1
returns-then-phase-eq1 c =
    before_used (held_in c.args.b.now) c.requires _ (sym c.phase.ensures ∙ c.if-phase-eq1.true) c.used.ensures.0

pub returns-else-phase-eq1 : goal.returns-else-phase-eq1
returns-else-phase-eq1 c =
    (before_unused (held_in c.args.b.now) (λ e. c.if-phase-eq1.false (c.phase.ensures ∙ e)), search rules)
