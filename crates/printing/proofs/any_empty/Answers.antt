use Rattle.std.proofs.Common.{sym, ap, ◌∙◌}
use Rattle.rules.specs.Lists.{any}
use Rattle.rules.specs.Effects.{none_filled}
use Rattle.printing.proofs.Rest.{any_listed}
use Rattle.printing.proofs.any_empty.Goals as goal

pub returns : goal.returns
returns c = c.any_none_filled.ensures ∙ any_listed none_filled c.films_of.result.now ∙ ap (any none_filled) (c.films_of.ensures ∙ sym c.requires)
