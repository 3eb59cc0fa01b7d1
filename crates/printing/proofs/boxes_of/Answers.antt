use Rattle.rules.specs.Records.{boxes_of}
use Rattle.printing.proofs.boxes_of.Goals as goal

pub returns : goal.returns
unfolding boxes_of
returns c = simp (c.front.ensures, c.box_count-count.ensures.0)
