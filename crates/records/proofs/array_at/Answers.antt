use mathlib.Core.Path.{◌∙◌}
use lib.ListN.{length-replicate, length-set}
use native.Mathlib.Omega.{arith}
use Rattle.fields.proofs.Turns.{read_none, read_turn, read_done}
use Rattle.records.proofs.array_at.Goals as goal

pub loop-i-init : goal.loop-i-init
loop-i-init g c =
    (length-replicate g.row.N c.read_at-xs.result, read_none g.T.Record.format c.args.s.now c.args.at)

pub loop-i-preserved : goal.loop-i-preserved
loop-i-preserved g c =
    let o = c.loop-i in
    let a = c.args in (
      length-set o.x-items o.i c.read_at.result ∙ o.invariant.0,
      read_turn g.T.Record.format g.met.T.Record.sized a.s.now a.at o.i o.x-items c.read_at.result (omega arith) (rw (← c.SIZE.ensures) c.read_at.ensures) o.invariant.1,
    )

pub returns : goal.returns
returns g c =
    let o = c.loop-i in
    let a = c.args in
    read_done g.T.Record.format a.s.now a.at g.row.N o.i o.x-items o.invariant.0 c.loop-i-test.false o.auto.i-end o.invariant.1
