use Rattle.std.proofs.Common.{ap, ◌∙◌}
use Rattle.printing.proofs.Positions.{collide}
use Rattle.printing.proofs.film_collides.Goals as goal

pub returns : goal.returns
returns c = c.boxes_collide.ensures ∙ ap collide c.boxes_of.ensures
