use mathlib.Core.Path.{◌∙◌}
use Rattle.boxes.specs.Founds.{length_by}
use Rattle.boxes.proofs.pixels_severity.Goals as goal

pub value-size-requires : goal.value-size-requires
value-size-requires c =
    c.requires.0

pub returns : goal.returns
unfolding length_by
returns c =
    c.mandatory_severity.ensures ∙ rw c.value-size.ensures
