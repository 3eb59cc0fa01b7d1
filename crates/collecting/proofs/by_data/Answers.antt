use mathlib.Core.Path.{sym, ap, ◌∙◌}
use lib.ListN.{length}
use Rattle.strike.specs.Machine.{collect, laid_by}
use Rattle.records.specs.Places.{held_in}
use Rattle.collecting.specs.Collecting.{state_of, collected_of}
use Rattle.collecting.proofs.Held.{met_as}
use Rattle.collecting.proofs.Outcomes.{data_arm, laid_arm, laid_in}
use Rattle.collecting.proofs.by_data.Goals as goal

pub returns-in-Idle : goal.returns-in-Idle
unfolding collected_of collect laid_by
returns-in-Idle c =
    let a = c.args in
    let e = sym (c.from-state.ensures ∙ ap state_of c.phase.ensures) ∙ c.in-Idle.is in (
      met_as (sym (ap collected_of (data_arm (length a.message.now) (held_in a.b.now) a.message.now a.bytes.now a.last e))) c.nothing.ensures,
      sym (laid_arm (length a.message.now) (held_in a.b.now) a.message.now a.bytes.now a.last e),
    )

pub returns-in-InCommand : goal.returns-in-InCommand
unfolding collected_of collect laid_by
returns-in-InCommand c =
    let a = c.args in
    let e = sym (c.from-state.ensures ∙ ap state_of c.phase.ensures) ∙ c.in-InCommand.is in (
      met_as (sym (ap collected_of (data_arm (length a.message.now) (held_in a.b.now) a.message.now a.bytes.now a.last e))) c.nothing-in-InCommand.ensures,
      sym (laid_arm (length a.message.now) (held_in a.b.now) a.message.now a.bytes.now a.last e),
    )

pub returns-in-SkippingCommand : goal.returns-in-SkippingCommand
unfolding collected_of collect laid_by
returns-in-SkippingCommand c =
    let a = c.args in
    let e = sym (c.from-state.ensures ∙ ap state_of c.phase.ensures) ∙ c.in-SkippingCommand.is in (
      met_as (sym (ap collected_of (data_arm (length a.message.now) (held_in a.b.now) a.message.now a.bytes.now a.last e))) c.nothing-in-SkippingCommand.ensures,
      sym (laid_arm (length a.message.now) (held_in a.b.now) a.message.now a.bytes.now a.last e),
    )

pub returns-in-InData : goal.returns-in-InData
unfolding collect
returns-in-InData c =
    let a = c.args in
    let e = sym (c.from-state.ensures ∙ ap state_of c.phase.ensures) ∙ c.in-InData.is in (
      met_as (sym (ap collected_of (data_arm (length a.message.now) (held_in a.b.now) a.message.now a.bytes.now a.last e))) c.stored.ensures.0,
      c.stored.ensures.1 ∙ laid_in (held_in a.b.now) a.message.now a.bytes.now a.last c.requires.1 ∙ sym (laid_arm (length a.message.now) (held_in a.b.now) a.message.now a.bytes.now a.last e),
    )

pub returns-in-SkippingData : goal.returns-in-SkippingData
unfolding collected_of collect laid_by
returns-in-SkippingData c =
    let a = c.args in
    let e = sym (c.from-state.ensures ∙ ap state_of c.phase.ensures) ∙ c.in-SkippingData.is in (
      met_as (sym (ap collected_of (data_arm (length a.message.now) (held_in a.b.now) a.message.now a.bytes.now a.last e))) c.overflowed.ensures,
      sym (laid_arm (length a.message.now) (held_in a.b.now) a.message.now a.bytes.now a.last e),
    )
