use Rattle.creating.proofs.boxes_in.Goals as goal

pub returns : goal.returns
returns c = rw c.box_count.ensures.0
