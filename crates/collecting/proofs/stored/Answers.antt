use Prim.Native.Nat.{ℕ, ◌+◌}
use mathlib.Core.Path.{ap, ◌∙◌}
use native.Mathlib.Omega.{arith}
use lib.ListN.{length}
use Rattle.octets.specs.Octets.{laid}
use Rattle.records.specs.Places.{held_in}
use Rattle.collecting.specs.Collecting.{holds}
use Rattle.collecting.proofs.Held.{met_as}
use Rattle.collecting.proofs.Outcomes.{stored_over, stored_arm, stored_none, stored_all}
use Rattle.collecting.proofs.stored.Goals as goal

pub returns-then-message-before : goal.returns-then-message-before
returns-then-message-before c =
    let a = c.args in
    let i = held_in a.b.now in
    let before = c.got-before.ensures.0 in (
      met_as (stored_over i a.message.now a.bytes.now a.last c.requires.1 (omega (arith, c.if-message-before.true, before))) c.overflowed.ensures,
      stored_none i.got a.message.now a.bytes.now (omega (arith, c.if-message-before.true, before)),
    )

pub returns : goal.returns
returns c =
    let a = c.args in
    let i = held_in a.b.now in
    let before = c.got-before.ensures.0 in (
      met_as
          (ap (λ (n : ℕ). holds c.data_answer.result c.after_data-next.result i (n + length a.bytes.now)) before
          ∙ stored_arm i a.message.now a.bytes.now a.last c.requires.1 _ _ c.requires.0 (omega (arith, c.if-message-before.false, before, c.requires.1)) c.data_answer.ensures c.after_data-next.ensures)
          c.holding.ensures,
      c.put.ensures ∙ ap (λ (n : ℕ). laid a.message.now n a.bytes.now) before ∙ stored_all i.got a.message.now a.bytes.now (omega (arith, c.if-message-before.false, before, c.requires.1)),
    )
