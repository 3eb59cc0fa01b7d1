use native.Mathlib.Omega.{arith}
use Rattle.names.proofs.InPlace.{five_bytes}
use Rattle.names.proofs.next_at.Goals as goal

pub returns : goal.returns
returns c =
    let n = five_bytes c.args.b.now c.args.at in
    (omega (arith, n, c.from-high.ensures), omega arith)
