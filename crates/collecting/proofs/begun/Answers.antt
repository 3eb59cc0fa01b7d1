use mathlib.Core.Path.{sym, ◌∙◌}
use Rattle.records.specs.Places.{held_in}
use Rattle.collecting.proofs.Held.{met_as}
use Rattle.collecting.proofs.Outcomes.{before_held, before_none}
use Rattle.collecting.proofs.begun.Goals as goal

pub returns-then-phase-eq1 : goal.returns-then-phase-eq1
returns-then-phase-eq1 c =
    met_as (before_held (held_in c.args.b.now) c.requires (sym c.phase.ensures ∙ c.if-phase-eq1.true)) c.holding.ensures

pub returns : goal.returns
returns c =
    met_as (before_none (held_in c.args.b.now) (λ e. c.if-phase-eq1.false (c.phase.ensures ∙ e))) c.nothing.ensures
