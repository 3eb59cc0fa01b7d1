use native.Mathlib.Omega.{arith}
use Rattle.commands.specs.Places.{slot_of}
use Rattle.commands.proofs.Held.{held_in}
use Rattle.commands.proofs.Requests.{actions}
use Rattle.commands.proofs.CommandSet.action.Goals as goal
use Rattle.commands.proofs.CommandSet.action.Goals.{then-not-has_target-via-then-not-has_target, then-not-has_target-via-else-not-has_target+then-not-has_number}

pub has_number-requires : goal.has_number-requires
unfolding slot_of
has_number-requires c = (held_in c.args.self.now.held 0x0000_1008 (omega arith)).0

pub number-requires : goal.number-requires
unfolding slot_of
number-requires c = held_in c.args.self.now.held 0x0000_1008 (omega arith)

pub returns-then-not-has_target : goal.returns-then-not-has_target
returns-then-not-has_target c =
    elim c.then-not-has_target.branch [
      | then-not-has_target-via-then-not-has_target w ↦ search actions
      | then-not-has_target-via-else-not-has_target+then-not-has_number w ↦ search actions
    ]

pub returns : goal.returns
returns c = search actions
