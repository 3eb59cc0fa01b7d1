use mathlib.Core.Path.{◌∙◌}
use Rattle.texts.proofs.Turns.{count_long, count_none, count_some}
use borrow.Author.Rules.{rules}
use Rattle.texts.proofs.count_in.Goals as goal

pub returns-then-v-gt12 : goal.returns-then-v-gt12
returns-then-v-gt12 c = (count_long _ _ _ c.trimmed-v.ensures c.if-v-gt12.true, search rules)

pub returns-then-is_empty : goal.returns-then-is_empty
returns-then-is_empty c = (count_none _ _ _ c.trimmed-v.ensures _ c.without_plus-u.ensures c.if-v-gt12.false (search rules), search rules)

pub returns : goal.returns
returns c = (c.digits_count.ensures.0 ∙ count_some _ _ _ c.trimmed-v.ensures _ c.without_plus-u.ensures c.if-v-gt12.false (search rules), search rules)
