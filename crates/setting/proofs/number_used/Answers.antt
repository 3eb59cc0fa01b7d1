use mathlib.Core.Path.{◌∙◌}
use Rattle.setting.proofs.InPlace.{picture_read}
use borrow.Author.Rules.{rules}
use Rattle.setting.proofs.number_used.Goals as goal

pub overflow_cast-result : goal.overflow_cast-result
overflow_cast-result c =
    let read = c.number_at.ensures.0 ∙ picture_read c.args.b.now in
    let left = c.requires c.if-fills.true in
    search rules

pub returns-then-fills : goal.returns-then-fills
returns-then-fills c =
    rw c.if-fills.true (c.number_at.ensures.0 ∙ picture_read c.args.b.now)

pub returns-else-fills : goal.returns-else-fills
returns-else-fills c = rw c.if-fills.false
