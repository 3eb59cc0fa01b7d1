use mathlib.Core.Path.{ap, ◌∙◌}
use Rattle.rules.specs.Values.{without_trailing, trimmed}
use Rattle.texts.proofs.trimmed.Goals as goal

pub returns : goal.returns
unfolding trimmed
returns c = c.without_trailing.ensures ∙ ap without_trailing c.without_leading.ensures
