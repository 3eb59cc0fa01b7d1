use Rattle.rules.specs.Layout.{input_format}
use Rattle.collecting.proofs.got.Goals as goal

pub returns : goal.returns
unfolding input_format
returns c = c.u32_at.ensures
