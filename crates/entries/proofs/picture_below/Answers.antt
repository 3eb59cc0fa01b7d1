use mathlib.Core.Path.{ap}
use lib.Dec.{ltb}
use Prim.Native.Nat.{ℕ}
use Rattle.rules.specs.Layout.{picture_format}
use Rattle.entries.proofs.picture_below.Goals as goal

pub returns : goal.returns
unfolding picture_format
returns c = ap (λ (x : ℕ). ltb x c.args.next) c.u32_at.ensures.0
