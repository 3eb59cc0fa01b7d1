use native.Mathlib.Omega.{arith}
use Rattle.commands.specs.Places.{slot_of}
use Rattle.commands.specs.Requests.{target_in}
use Rattle.commands.proofs.CommandSet.target.Goals as goal

pub returns : goal.returns
unfolding target_in slot_of
returns c = simp (← (c.args.self.now.held.each 0x0000_0003 (omega arith)), ← (c.args.self.now.held.each 0x0000_1001 (omega arith)))
