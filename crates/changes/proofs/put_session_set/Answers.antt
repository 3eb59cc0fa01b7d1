use mathlib.Core.Path.{◌∙◌}
use native.Mathlib.Omega.{arith}
use Rattle.changes.proofs.Changed.{session_set_lem}
use Rattle.records.proofs.Whole.{whole}
use Rattle.changes.proofs.put_session_set.Goals as goal

pub returns : goal.returns
returns c =
    c.put.ensures
    ∙ session_set_lem c.args.b.now (λ i. omega (arith, c.fits-b i)) (whole _ c.told-b) c.args.session.now
