use lib.ListN.{length}
use Prim.Native.Nat.{◌+◌, ◌*◌, ◌≤◌}
use native.Mathlib.Omega.{arith}
use Rattle.fields.proofs.Turns.{write_none, write_turn, write_done}
use borrow.Author.Rules.{rules}
use Rattle.records.proofs.put_array.Goals as goal

pub loop-i-init : goal.loop-i-init
loop-i-init g c = let a = c.args in
    write_none g.T.Record.format a.s.now a.at a.xs.now

pub loop-i-preserved : goal.loop-i-preserved
loop-i-preserved g c =
    let o = c.loop-i in
    let a = c.args in
    let R = g.met.T.Record in
    let h : a.at + o.i * g.T.Record.SIZE ≤ length a.s.now = search rules in
    write_turn R.laws R.sized a.s.now o.s c.put.new.s a.at o.i a.xs.now c.index-xs-i.result h (omega arith) (rw (← c.SIZE.ensures) c.put.ensures) o.invariant

pub returns : goal.returns
returns g c =
    let o = c.loop-i in
    let a = c.args in
    write_done g.T.Record.format a.s.now o.s a.at g.row.N o.i a.xs.now c.loop-i-test.false o.auto.i-end o.invariant
