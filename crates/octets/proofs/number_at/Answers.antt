use Prim.Native.Nat.{◌+◌, ◌-◌}
use mathlib.Core.Path.{◌≡◌, ap, ◌∙◌}
use native.Mathlib.Omega.{arith}
use lib.ListN.{length}
use Rattle.octets.specs.Octets.{number_at, part}
use Rattle.octets.proofs.Parts.{part_length}
use Rattle.octets.proofs.Turns.{byte_turn, room_turn, value_turn}
use borrow.Author.Rules.{rules}
use Rattle.octets.proofs.number_at.Goals as goal

pub loop-b-init : goal.loop-b-init
unfolding number_at
loop-b-init c =
    let a = c.args in
    let all = c.into_iter-b-iterator.result.iter.rest.now in
    let e : all ≡ part a.s.now a.at (a.at + a.width) = search rules in
    let w : a.at + a.width - a.at ≡ a.width = omega arith in
    let n : length all ≡ a.width = ap length e ∙ part_length a.s.now a.at a.width c.requires.1 in
    let z : a.width - length all ≡ 0 = omega arith in
    (omega arith, rw n (e ∙ rw w), rw z, rw z (omega arith))

pub overflow_mul-v : goal.overflow_mul-v
overflow_mul-v c =
    let o = c.loop-b in
    let a = c.args in
    omega (arith, room_turn a.s.now a.at a.width o.v _ _ _ c.type_inv.s c.requires.1 c.in-Some.ensures.steps o.invariant.0 o.invariant.1 o.invariant.3 c.requires.0)

pub overflow_add-v : goal.overflow_add-v
overflow_add-v c =
    let o = c.loop-b in
    let a = c.args in
    let e = c.in-Some.ensures.steps in
    omega (arith, room_turn a.s.now a.at a.width o.v _ _ _ c.type_inv.s c.requires.1 e o.invariant.0 o.invariant.1 o.invariant.3 c.requires.0, byte_turn a.s.now a.at a.width o.v _ _ _ c.type_inv.s c.requires.1 e o.invariant.0 o.invariant.1 o.invariant.3)

pub loop-b-preserved : goal.loop-b-preserved
loop-b-preserved c =
    let o = c.loop-b in
    let a = c.args in
    rw c.from.ensures (value_turn a.s.now a.at a.width o.v _ _ _ c.type_inv.s c.requires.1 c.in-Some.ensures.steps o.invariant.0 o.invariant.1 o.invariant.3 o.invariant.2)

pub returns : goal.returns
returns c =
    let n = c.in-None.ensures.steps.0 in
    let z : c.args.width - length c.loop-b.b-iterator.iter.rest.now ≡ c.args.width = omega arith in
    let b : c.args.at + length c.loop-b.b-iterator.iter.rest.now ≡ c.args.at = omega arith in
    (rw (z, b) at c.loop-b.invariant.2, rw z at c.loop-b.invariant.3)
