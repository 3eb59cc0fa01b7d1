use Prim.Native.Nat.{ℕ}
use mathlib.Core.Path.{refl, sym, ap, ◌∙◌}
use mathlib.Core.List.{List, ◌++◌}
use native.Mathlib.Omega.{arith}
use lib.ListN.{length-append}
use Rattle.strike.specs.Machine.{reads}
use Rattle.rules.specs.Calls.{reading}
use Rattle.rules.specs.Records.{command_held}
use Rattle.rules.specs.Outcomes.{input_held}
use Rattle.records.specs.Places.{held_in}
use Rattle.collecting.specs.Collecting.{command_before, collected_of}
use Rattle.collecting.proofs.Filled.{held_back, held_filled}
use Rattle.collecting.proofs.Held.{met_as, met_over}
use Rattle.collecting.proofs.Outcomes.{command_arm, command_fits}
use Rattle.records.proofs.Whole.{whole}
use Rattle.collecting.proofs.by_command.Goals as goal

pub gathered-requires : goal.gathered-requires
gathered-requires c =
    (c.requires, command_fits (held_in c.args.b.now) c.args.bytes.now c.args.last (sym c.command_next-next.ensures ∙ c.in-InCommand.is) refl)

pub gathered-requires-in-InData : goal.gathered-requires-in-InData
gathered-requires-in-InData c =
    (c.requires, command_fits (held_in c.args.b.now) c.args.bytes.now c.args.last (sym c.command_next-next.ensures ∙ c.in-InData.is) refl)

pub read-requires : goal.read-requires
read-requires c =
    let fits = command_fits (held_in c.args.b.now) c.args.bytes.now c.args.last (sym c.command_next-next.ensures ∙ c.in-InData.is) refl in
    let before = command_before (held_in c.args.b.now) in
    held_filled _ (before ++ c.args.bytes.now) c.gathered-in-InData.ensures.put.back (omega (arith, fits, length-append before c.args.bytes.now))

pub returns-in-Idle : goal.returns-in-Idle
unfolding collected_of input_held
returns-in-Idle c =
    met_as (sym (command_arm (held_in c.args.b.now) c.args.bytes.now c.args.last (sym c.command_next-next.ensures ∙ c.in-Idle.is))) c.nothing.ensures

pub returns-in-InCommand : goal.returns-in-InCommand
unfolding collected_of input_held
returns-in-InCommand c =
    met_as (sym (command_arm (held_in c.args.b.now) c.args.bytes.now c.args.last (sym c.command_next-next.ensures ∙ c.in-InCommand.is))) c.gathered.ensures

pub returns-in-SkippingCommand : goal.returns-in-SkippingCommand
unfolding collected_of input_held
returns-in-SkippingCommand c =
    met_as (sym (command_arm (held_in c.args.b.now) c.args.bytes.now c.args.last (sym c.command_next-next.ensures ∙ c.in-SkippingCommand.is))) c.nothing-in-SkippingCommand.ensures

pub returns-in-InData : goal.returns-in-InData
returns-in-InData c =
    let m = c.gathered-in-InData.ensures in
    met_as
    (ap (λ (x : List ℕ). collected_of (reads (reading x) x)) (ap command_held m.put.back ∙ held_back (command_before (held_in c.args.b.now) ++ c.args.bytes.now))
    ∙ sym (command_arm (held_in c.args.b.now) c.args.bytes.now c.args.last (sym c.command_next-next.ensures ∙ c.in-InData.is)))
    (met_over c.args.b.now (whole _ c.told-b) m c.read.ensures)

pub returns-in-SkippingData : goal.returns-in-SkippingData
unfolding collected_of input_held
returns-in-SkippingData c =
    met_as (sym (command_arm (held_in c.args.b.now) c.args.bytes.now c.args.last (sym c.command_next-next.ensures ∙ c.in-SkippingData.is))) c.nothing-in-SkippingData.ensures
