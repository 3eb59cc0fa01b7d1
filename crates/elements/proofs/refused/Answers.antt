use mathlib.Core.Path.{refl}
use Rattle.elements.proofs.refused.Goals as goal

pub returns : goal.returns
returns c = (rw c.depth_of-depth.ensures, refl)
