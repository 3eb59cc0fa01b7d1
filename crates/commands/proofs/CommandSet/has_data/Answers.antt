use mathlib.Core.Path.{◌∙◌}
use native.Mathlib.Omega.{arith}
use Rattle.choice.proofs.Picks.{nots}
use Rattle.rules.specs.Commands.{has_data}
use Rattle.commands.specs.Places.{slot_of}
use Rattle.commands.proofs.Held.{held_in, held_number}
use Rattle.commands.proofs.CommandSet.has_data.Goals as goal

pub number-requires : goal.number-requires
unfolding slot_of
number-requires c = held_in c.args.self.now.held 0x0000_0800 (omega arith)

pub returns : goal.returns
unfolding has_data slot_of
returns c =
    let n = c.number.ensures.0 ∙ held_number c.args.self.now.held 0x0000_0800 (omega arith) in
    nots _ ∙ simp (← n)
