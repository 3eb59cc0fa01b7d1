use Rattle.commands.specs.Places.{slot_of}
use Rattle.commands.proofs.Slots.{slots}
use native.Mathlib.Omega.{arith}
use Rattle.commands.proofs.slot.Goals as goal

pub returns-in-0 : goal.returns-in-0
unfolding slot_of
returns-in-0 c = (rw c.in-0.is, omega arith)

pub returns-in-2 : goal.returns-in-2
unfolding slot_of
returns-in-2 c = (rw c.in-2.is, omega arith)

pub returns-in-3 : goal.returns-in-3
unfolding slot_of
returns-in-3 c = (rw c.in-3.is, omega arith)

pub returns-in-256 : goal.returns-in-256
unfolding slot_of
returns-in-256 c = (rw c.in-256.is, omega arith)

pub returns-in-272 : goal.returns-in-272
unfolding slot_of
returns-in-272 c = (rw c.in-272.is, omega arith)

pub returns-in-2048 : goal.returns-in-2048
unfolding slot_of
returns-in-2048 c = (rw c.in-2048.is, omega arith)

pub returns-in-4096 : goal.returns-in-4096
unfolding slot_of
returns-in-4096 c = (rw c.in-4096.is, omega arith)

pub returns-in-4097 : goal.returns-in-4097
unfolding slot_of
returns-in-4097 c = (rw c.in-4097.is, omega arith)

pub returns-in-4104 : goal.returns-in-4104
unfolding slot_of
returns-in-4104 c = (rw c.in-4104.is, omega arith)

pub returns-in_default : goal.returns-in_default
unfolding slot_of
returns-in_default c = (search slots depth 24, omega arith)
