use native.Mathlib.Omega.{arith}
use Rattle.octets.proofs.Parts.{part_length}
use Rattle.octets.proofs.Turns.{octets_turn, octets_done}
use Rattle.octets.proofs.put_number.Goals as goal

pub loop-b-preserved : goal.loop-b-preserved
loop-b-preserved c =
    let o = c.loop-b in
    let a = c.args in
    let n = part_length a.s.now a.at a.width c.requires in
    octets_turn o.b-items a.width a.x o.v o.b-index (omega arith) (omega arith) o.invariant

pub returns : goal.returns
returns c =
    let o = c.loop-b in
    let a = c.args in
    octets_done a.s.now o.b-items a.at a.width a.x o.v o.b-index c.requires o.auto.b-items c.loop-b-test.false o.invariant
