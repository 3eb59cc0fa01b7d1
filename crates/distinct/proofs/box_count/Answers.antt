use mathlib.Core.Path.{sym, ap, ◌∙◌}
use Rattle.rules.specs.Records.{box_count}
use Rattle.distinct.proofs.InPlace.{film_layout}
use borrow.Author.Rules.{rules}
use Rattle.distinct.proofs.box_count.Goals as goal

pub returns : goal.returns
returns c = (c.box_count_at.ensures.0 ∙ ap box_count (sym (film_layout _ _)), search rules)
