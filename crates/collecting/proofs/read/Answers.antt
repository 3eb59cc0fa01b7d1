use mathlib.Core.Path.{sym, ap, ◌∙◌}
use Rattle.strike.specs.declared.Came.TheVariants.{Absent}
use Rattle.rules.specs.Calls.{reading}
use Rattle.records.specs.Places.{held_in}
use Rattle.collecting.specs.declared.Answer.TheVariants.{Wait, Asks}
use Rattle.collecting.specs.declared.Collecting.TheVariants.{Idle, InData}
use Rattle.collecting.proofs.Held.{met_as}
use Rattle.collecting.proofs.Outcomes.{read_arm, holds_filled}
use Rattle.collecting.proofs.read.Goals as goal

pub returns-in-NotReadable : goal.returns-in-NotReadable
returns-in-NotReadable c =
    met_as (sym (read_arm (held_in c.args.b.now) (ap reading (sym c.command_held.ensures) ∙ sym c.read_as-reads.ensures ∙ c.in-NotReadable.is))) c.nothing.ensures

pub returns-in-Alone : goal.returns-in-Alone
returns-in-Alone c =
    let i = held_in c.args.b.now in
    met_as (holds_filled (Asks Absent) Idle i 0 c.requires ∙ sym (read_arm i (ap reading (sym c.command_held.ensures) ∙ sym c.read_as-reads.ensures ∙ c.in-Alone.is))) c.holding.ensures

pub returns-in-WithData : goal.returns-in-WithData
returns-in-WithData c =
    let i = held_in c.args.b.now in
    met_as (holds_filled Wait InData i 0 c.requires ∙ sym (read_arm i (ap reading (sym c.command_held.ensures) ∙ sym c.read_as-reads.ensures ∙ c.in-WithData.is))) c.holding-in-WithData.ensures
