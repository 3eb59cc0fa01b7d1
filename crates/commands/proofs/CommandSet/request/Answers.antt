use native.Mathlib.Omega.{arith}
use Rattle.commands.specs.Places.{slot_of}
use Rattle.commands.proofs.Held.{held_in}
use Rattle.commands.proofs.Requests.{requests, asks_other}
use Rattle.commands.proofs.CommandSet.request.Goals as goal

pub number-field-requires : goal.number-field-requires
unfolding slot_of
number-field-requires c = held_in c.args.self.now.held 0x0000_0100 (omega arith)

pub number-requires : goal.number-requires
unfolding slot_of
number-requires c = held_in c.args.self.now.held 0x0000_0110 (omega arith)

pub returns-in-48 : goal.returns-in-48
returns-in-48 c = search requests

pub returns-in-320 : goal.returns-in-320
returns-in-320 c = search requests

pub returns-in-288 : goal.returns-in-288
returns-in-288 c = search requests

pub returns-in-304 : goal.returns-in-304
returns-in-304 c = search requests

pub returns-in-336 : goal.returns-in-336
returns-in-336 c = search requests

pub returns-in_default : goal.returns-in_default
returns-in_default c =
    asks_other c.args.self.now.held _ c.number-field.ensures.0 (λ e. omega arith) (λ e. omega arith) (λ e. omega arith) (λ e. omega arith) (λ e. omega arith) _ c.number.ensures.0
