use mathlib.Core.Path.{sym, ap, ◌∙◌}
use mathlib.Core.Bool.{Bool}
use Rattle.choice.specs.Pick.{pick}
use Rattle.rules.specs.Sound.{readable}
use Rattle.strike.specs.declared.Reading.TheVariants.{Alone, WithData}
use Rattle.collecting.proofs.Outcomes.{reading_none, reading_some}
use Rattle.collecting.proofs.read_as.Goals as goal

pub returns-then-not-is_readable : goal.returns-then-not-is_readable
returns-then-not-is_readable c =
    sym (reading_none _ (sym (ap readable c.said-said.ensures.0) ∙ sym c.is_readable.ensures ∙ c.if-not-is_readable.true))

pub returns-then-said : goal.returns-then-said
returns-then-said c =
    let read = sym c.is_readable.ensures ∙ c.if-not-is_readable.false in
    sym (reading_some _ (sym (ap readable c.said-said.ensures.0) ∙ read) ∙ ap (λ (b : Bool). pick b WithData Alone) (sym (c.said-said.ensures.1 read) ∙ c.if-said.true))

pub returns-else-said : goal.returns-else-said
returns-else-said c =
    let read = sym c.is_readable.ensures ∙ c.if-not-is_readable.false in
    sym (reading_some _ (sym (ap readable c.said-said.ensures.0) ∙ read) ∙ ap (λ (b : Bool). pick b WithData Alone) (sym (c.said-said.ensures.1 read) ∙ c.if-said.false))
