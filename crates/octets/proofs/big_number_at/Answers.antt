use mathlib.Core.Path.{◌≡◌, refl, ◌∙◌}
use native.Mathlib.Omega.{arith}
use Rattle.octets.specs.Octets.{big_number_at}
use Rattle.octets.proofs.Parts.{part_length, part_byte}
use Rattle.octets.proofs.Turns.{big_turn, big_below_turn, small}
use Rattle.octets.proofs.big_number_at.Goals as goal

pub loop-b-init : goal.loop-b-init
unfolding big_number_at
loop-b-init c = (refl, omega arith)

pub overflow_mul-v : goal.overflow_mul-v
overflow_mul-v c =
    let n = part_length c.args.s.now c.args.at c.args.width c.requires.1 in
    omega (arith, small {k = c.loop-b.b-index} {v = c.loop-b.v} (omega arith) c.loop-b.invariant.1)

pub overflow_add-v : goal.overflow_add-v
overflow_add-v c =
    let n = part_length c.args.s.now c.args.at c.args.width c.requires.1 in
    omega (arith, small {k = c.loop-b.b-index} {v = c.loop-b.v} (omega arith) c.loop-b.invariant.1)

pub loop-b-preserved : goal.loop-b-preserved
loop-b-preserved c =
    let o = c.loop-b in
    let a = c.args in
    let n = part_length a.s.now a.at a.width c.requires.1 in
    let e = c.from.ensures ∙ part_byte a.s.now a.at a.width o.b-index (omega arith) in
    (big_turn a.s.now a.at o.b-index o.v c.from.result e o.invariant.0, big_below_turn o.b-index o.v c.from.result (omega arith) o.invariant.1)

pub returns : goal.returns
returns c =
    let n = part_length c.args.s.now c.args.at c.args.width c.requires.1 in
    let z : c.loop-b.b-index ≡ c.args.width = omega arith in
    (rw z at c.loop-b.invariant.0, rw z at c.loop-b.invariant.1)
