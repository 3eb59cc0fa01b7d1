use Rattle.rules.specs.Layout.{input_format}
use Rattle.collecting.proofs.used.Goals as goal

pub returns : goal.returns
unfolding input_format
returns c = c.u16_at.ensures
