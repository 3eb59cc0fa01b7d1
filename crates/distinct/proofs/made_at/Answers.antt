use mathlib.Core.Path.{sym, ◌∙◌}
use Rattle.distinct.proofs.InPlace.{name_made}
use borrow.Author.Rules.{rules}
use Rattle.distinct.proofs.made_at.Goals as goal

pub returns : goal.returns
returns c = (c.u32_at.ensures.0 ∙ sym (name_made _ _), search rules)
