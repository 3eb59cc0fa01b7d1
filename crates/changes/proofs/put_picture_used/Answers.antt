use mathlib.Core.Path.{◌∙◌}
use native.Mathlib.Omega.{arith}
use Rattle.changes.proofs.Spots.{held}
use Rattle.changes.proofs.Changed.{picture_put}
use Rattle.records.proofs.Whole.{whole}
use Rattle.changes.proofs.put_picture_used.Goals as goal

pub returns-then-fills : goal.returns-then-fills
returns-then-fills c =
    rw c.if-fills.true
    (c.put_number.ensures
    ∙ picture_put c.args.b.now (λ i. omega (arith, c.fits-b i)) (whole _ c.told-b) c.number_at-next.result c.number_at-next.ensures.0)

pub returns-else-fills : goal.returns-else-fills
returns-else-fills c =
    rw c.if-fills.false (held c.args.b.now (λ i. omega (arith, c.fits-b i)) (whole _ c.told-b))
