use native.Mathlib.Omega.{arith}
use borrow.Author.Tests.{eq-eqb, ne_eqb}
use Rattle.rules.specs.Commands.{length_told}
use Rattle.commands.specs.Places.{slot_of}
use Rattle.commands.proofs.Held.{held_in, twelve_at_least}
use Rattle.commands.proofs.CommandSet.length_told.Goals as goal

pub overflow_sub-p : goal.overflow_sub-p
unfolding length_told slot_of
overflow_sub-p c = (held_in c.args.self.now.held 0x0000_0000 (omega arith)).0

pub u32_at-requires : goal.u32_at-requires
unfolding length_told slot_of
u32_at-requires c =
    let i = held_in c.args.self.now.held 0x0000_0000 (omega arith) in
    omega (arith, c.if-p-eq4.true)

pub returns-then-p-eq4 : goal.returns-then-p-eq4
unfolding length_told slot_of
returns-then-p-eq4 c = simp (← (c.args.self.now.held.each 0x0000_0000 (omega arith)), eq-eqb _ _ c.if-p-eq4.true, ← c.u32_at.ensures.0)

pub returns-else-p-eq4 : goal.returns-else-p-eq4
unfolding length_told slot_of
returns-else-p-eq4 c = simp (← (c.args.self.now.held.each 0x0000_0000 (omega arith)), ne_eqb _ _ c.if-p-eq4.false)

pub overflow_sub-result : goal.overflow_sub-result
overflow_sub-result c = omega (arith, twelve_at_least c.args.self.now.held c.if-p-eq4.true)
