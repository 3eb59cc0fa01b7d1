use Prim.Native.Nat.{◌-◌}
use mathlib.Core.Path.{sym, ap, ◌∙◌}
use mathlib.Core.Bool.{true, false}
use lib.ListN.{length, take, drop}
use Rattle.strike.specs.Machine.{Fragment, collect, laid_by}
use Rattle.rules.specs.Calls.{reading}
use Rattle.rules.specs.Outcomes.{input_in}
use Rattle.records.specs.Places.{held_in}
use Rattle.octets.proofs.Parts.{rest}
use Rattle.collecting.specs.Collecting.{collected_of}
use Rattle.collecting.proofs.Held.{met_as}
use Rattle.collecting.proofs.Outcomes.{command_met, fragment_of_lem, laid_command}
use Rattle.collecting.proofs.collect.Goals as goal

pub returns-then-is_command : goal.returns-then-is_command
returns-then-is_command c =
    let f = c.args.fragment.now in
    let m = c.args.message.now in
    let i = held_in c.args.b.now in
    let last = c.is_last-last in
    let bytes = take (length f - 6) (drop 6 f) in
    let e = fragment_of_lem f true last.result bytes (sym c.is_command.ensures ∙ c.if-is_command.true) last.ensures (rest f 6) in (
      met_as (ap collected_of (sym (command_met (length m) i m bytes last.result) ∙ ap (λ (x : Fragment). collect reading (length m) (input_in i m) x) e)) c.by_command.ensures,
      sym (laid_command (length m) (input_in i m) last.result bytes m) ∙ ap (λ (x : Fragment). laid_by (length m) (input_in i m) x m) e,
    )

pub returns-else-is_command : goal.returns-else-is_command
returns-else-is_command c =
    let f = c.args.fragment.now in
    let m = c.args.message.now in
    let i = held_in c.args.b.now in
    let last = c.is_last-last in
    let bytes = take (length f - 6) (drop 6 f) in
    let e = fragment_of_lem f false last.result bytes (sym c.is_command.ensures ∙ c.if-is_command.false) last.ensures (rest f 6) in (
      met_as (ap (λ (x : Fragment). collected_of (collect reading (length m) (input_in i m) x)) e) c.by_data.ensures.0,
      c.by_data.ensures.1 ∙ ap (λ (x : Fragment). laid_by (length m) (input_in i m) x m) e,
    )
