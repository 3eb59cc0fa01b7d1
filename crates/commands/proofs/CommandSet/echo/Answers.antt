use native.Mathlib.Omega.{arith}
use mathlib.Core.Path.{◌∙◌}
use Rattle.commands.specs.Places.{slot_of}
use Rattle.commands.specs.Requests.{echo_in, known_as}
use Rattle.commands.proofs.Held.{held_in, held_uid}
use Rattle.commands.proofs.CommandSet.echo.Goals as goal

pub has_uid-requires : goal.has_uid-requires
unfolding echo_in known_as slot_of
has_uid-requires c = held_in c.args.self.now.held 0x0000_0002 (omega arith)

pub returns-then-not-has_uid : goal.returns-then-not-has_uid
unfolding echo_in known_as slot_of
returns-then-not-has_uid c = simp (← (c.has_uid.ensures ∙ held_uid c.args.self.now.held 0x0000_0002 (omega arith)), c.if-not-has_uid.true)

pub returns : goal.returns
unfolding echo_in known_as slot_of
returns c =
    let held = c.args.self.now.held in
    c.known.ensures ∙ simp (← (c.has_uid.ensures ∙ held_uid held 0x0000_0002 (omega arith)), c.if-not-has_uid.false) (simp (← (held.each 0x0000_0002 (omega arith))))
