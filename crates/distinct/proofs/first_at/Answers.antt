use mathlib.Core.Path.{sym, ◌∙◌}
use Rattle.distinct.proofs.InPlace.{film_first}
use borrow.Author.Rules.{rules}
use Rattle.distinct.proofs.first_at.Goals as goal

pub returns : goal.returns
returns c = (c.u32_at.ensures.0 ∙ sym (film_first _ _), search rules)
