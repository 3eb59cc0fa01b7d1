use native.Mathlib.Omega.{arith}
use mathlib.Core.Path.{◌∙◌}
use Rattle.commands.specs.Places.{slot_of}
use Rattle.commands.proofs.Held.{held_in, held_uid}
use Rattle.commands.proofs.CommandSet.has_target.Goals as goal

pub has_uid-requires : goal.has_uid-requires
unfolding slot_of
has_uid-requires c = held_in c.args.self.now.held 0x0000_0003 (omega arith)

pub has_uid-requires-then-has_uid : goal.has_uid-requires-then-has_uid
unfolding slot_of
has_uid-requires-then-has_uid c = held_in c.args.self.now.held 0x0000_1001 (omega arith)

pub returns-then-has_uid : goal.returns-then-has_uid
unfolding slot_of
returns-then-has_uid c =
    let held = c.args.self.now.held in
    simp (← (c.has_uid.ensures ∙ held_uid held 0x0000_0003 (omega arith)), c.if-has_uid.true, ← (c.has_uid-then-has_uid.ensures ∙ held_uid held 0x0000_1001 (omega arith)))

pub returns-else-has_uid : goal.returns-else-has_uid
unfolding slot_of
returns-else-has_uid c = simp (← (c.has_uid.ensures ∙ held_uid c.args.self.now.held 0x0000_0003 (omega arith)), c.if-has_uid.false)
