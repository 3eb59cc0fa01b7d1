use native.Mathlib.Omega.{arith}
use mathlib.Core.Path.{◌∙◌}
use Rattle.commands.specs.Places.{slot_of}
use Rattle.commands.specs.Requests.{known_as}
use Rattle.commands.proofs.Held.{held_in, held_number}
use Rattle.commands.proofs.CommandSet.known.Goals as goal

pub number-requires : goal.number-requires
unfolding known_as slot_of
number-requires c = held_in c.args.self.now.held 0x0000_0110 (omega arith)

pub returns : goal.returns
unfolding known_as slot_of
returns c = simp (← (c.number.ensures.0 ∙ held_number c.args.self.now.held 0x0000_0110 (omega arith)))
