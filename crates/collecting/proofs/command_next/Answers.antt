use Prim.Native.Nat.{◌+◌}
use mathlib.Core.Path.{ap, ◌∙◌}
use mathlib.Core.Bool.{true, false}
use native.Mathlib.Omega.{arith}
use lib.ListN.{length}
use borrow.Author.Tests.{lt-leb, le-leb}
use Rattle.records.specs.Places.{held_in}
use Rattle.collecting.specs.Collecting.{state_of, command_before}
use Rattle.collecting.proofs.Outcomes.{measured}
use Rattle.collecting.proofs.command_next.Goals as goal

pub returns-then-used_before-n : goal.returns-then-used_before-n
returns-then-used_before-n c =
    let a = c.args in
    c.after_command.ensures ∙ measured _ _ false _ a.last (c.from-state.ensures ∙ ap state_of c.phase.ensures)
    (lt-leb (length (command_before (held_in a.b.now)) + a.n) 1024 (omega (arith, c.if-used_before-n.true, c.used_before.ensures)))

pub returns : goal.returns
returns c =
    let a = c.args in
    c.after_command-2.ensures ∙ measured _ _ true _ a.last (c.from-state.ensures ∙ ap state_of c.phase.ensures)
    (le-leb (length (command_before (held_in a.b.now)) + a.n) 1024 (omega (arith, c.if-used_before-n.false, c.used_before.ensures)))
