use mathlib.Core.Path.{refl}
use Rattle.rules.specs.Layout.{input_format}
use Rattle.collecting.proofs.phase.Goals as goal

pub returns : goal.returns
unfolding input_format
returns c = refl
