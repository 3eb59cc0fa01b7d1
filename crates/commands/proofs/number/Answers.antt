use Rattle.commands.proofs.Laws.{two_bytes}
use borrow.Author.Rules.{rules}
use Rattle.commands.proofs.number.Goals as goal

pub returns : goal.returns
returns c = (rw (c.octet.ensures.0, c.octet-2.ensures.0) (two_bytes _ _), search rules)
