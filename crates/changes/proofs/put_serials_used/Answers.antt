use mathlib.Core.Path.{◌∙◌}
use native.Mathlib.Omega.{arith}
use Rattle.changes.proofs.Changed.{serials_put}
use Rattle.records.proofs.Whole.{whole}
use Rattle.changes.proofs.put_serials_used.Goals as goal

pub returns : goal.returns
returns c =
    c.put_number.ensures
    ∙ serials_put c.args.b.now (λ i. omega (arith, c.fits-b i)) (whole _ c.told-b) c.number_at.result c.args.serials c.number_at.ensures.0
