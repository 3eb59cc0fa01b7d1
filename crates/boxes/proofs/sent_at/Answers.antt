use mathlib.Core.Path.{refl, ap, ◌∙◌}
use lib.ListN.{length}
use Rattle.rules.specs.Values.{us_in}
use Rattle.boxes.proofs.sent_at.Goals as goal

pub returns : goal.returns
returns c =
    let v = c.value-v.ensures in
    (refl, ap length v, c.us_in.ensures.0 ∙ ap us_in v, c.us_in.ensures.1)
