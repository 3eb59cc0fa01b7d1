use mathlib.Core.Path.{refl}
use Rattle.tags.proofs.named.Goals as goal

pub returns : goal.returns
returns c = refl
