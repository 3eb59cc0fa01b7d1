use mathlib.Core.Path.{sym, ◌∙◌}
use Rattle.instances.proofs.InPlace.{film_first}
use Rattle.instances.proofs.first_at.Goals as goal

pub returns : goal.returns
returns c =
    (c.u32_at.ensures.0 ∙ sym (film_first c.args.b.now c.args.p), c.u32_at.ensures.1)
