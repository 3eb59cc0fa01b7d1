use mathlib.Core.Path.{refl}
use Rattle.tags.proofs.forms.Goals as goal

pub returns : goal.returns
returns c = refl
