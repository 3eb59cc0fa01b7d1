use native.Mathlib.Omega.{arith}
use Rattle.layouts.proofs.Sums.{boxes_at}
use Rattle.layouts.proofs.box_count_at.Goals as goal

pub returns : goal.returns
returns c =
    let n = boxes_at c.args.s.now c.args.p in
    (omega arith, omega arith)
