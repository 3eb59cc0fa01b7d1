use Rattle.rules.specs.Records.{box_count}
use Rattle.layouts.proofs.box_count.Goals as goal

pub returns : goal.returns
unfolding box_count
returns c = c.sum_of.ensures
