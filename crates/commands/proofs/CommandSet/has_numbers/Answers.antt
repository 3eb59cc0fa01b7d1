use native.Mathlib.Omega.{arith}
use Rattle.commands.specs.Places.{slot_of}
use Rattle.commands.proofs.Held.{held_in}
use Rattle.commands.proofs.Requests.{numbers}
use Rattle.commands.proofs.CommandSet.has_numbers.Goals as goal
use Rattle.commands.proofs.CommandSet.has_numbers.Goals.{then-not-has_number-via-then-not-has_number, then-not-has_number-via-else-not-has_number+then-not-has_number-2, then-not-has_number-via-else-not-has_number+else-not-has_number-2+then-not-has_number-3}

pub has_number-requires : goal.has_number-requires
unfolding slot_of
has_number-requires c = (held_in c.args.self.now.held 0x0000_0100 (omega arith)).0

pub has_number-requires-else-not-has_number : goal.has_number-requires-else-not-has_number
unfolding slot_of
has_number-requires-else-not-has_number c = (held_in c.args.self.now.held 0x0000_0110 (omega arith)).0

pub has_number-requires-else-not-has_number-2 : goal.has_number-requires-else-not-has_number-2
unfolding slot_of
has_number-requires-else-not-has_number-2 c = (held_in c.args.self.now.held 0x0000_0800 (omega arith)).0

pub number-requires : goal.number-requires
unfolding slot_of
number-requires c = held_in c.args.self.now.held 0x0000_0100 (omega arith)

pub returns-then-not-has_number : goal.returns-then-not-has_number
returns-then-not-has_number c =
    elim c.then-not-has_number.branch [
      | then-not-has_number-via-then-not-has_number w ↦ search numbers
      | then-not-has_number-via-else-not-has_number+then-not-has_number-2 w ↦ search numbers
      | then-not-has_number-via-else-not-has_number+else-not-has_number-2+then-not-has_number-3 w ↦ search numbers
    ]

pub returns : goal.returns
returns c = search numbers
