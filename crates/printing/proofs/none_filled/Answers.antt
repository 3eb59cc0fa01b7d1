use Rattle.std.proofs.Common.{ap, ◌∙◌}
use Rattle.choice.specs.Pick.{not}
use Rattle.rules.specs.Lists.{any}
use Rattle.rules.specs.Records.{filled}
use Rattle.printing.proofs.Rest.{any_listed, not_same}
use Rattle.printing.proofs.none_filled.Goals as goal

pub returns : goal.returns
returns c = not_same c.any_filled.result ∙ ap not (c.any_filled.ensures ∙ any_listed filled c.boxes_of.result.now ∙ ap (any filled) c.boxes_of.ensures)
