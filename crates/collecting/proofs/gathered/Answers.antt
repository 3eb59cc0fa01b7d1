use native.Mathlib.Omega.{arith}
use Rattle.collecting.proofs.Held.{gathered_met}
use Rattle.records.proofs.Whole.{whole}
use Rattle.collecting.proofs.gathered.Goals as goal

pub returns : goal.returns
returns c =
    gathered_met c.args.b.now (whole _ c.told-b) c.fits-b _ _ _ _ _ c.args.bytes.now c.used_before-used.ensures.0 c.requires.1
    (λ i. omega (arith, c.shared_slice_known-1.given i)) c.begun-answer.ensures c.put.ensures c.put_number.ensures
