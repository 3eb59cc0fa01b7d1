use borrow.Author.Tests.{lt-ltb, le-ltb}
use borrow.Author.Rules.{rules}
use Rattle.layouts.proofs.counted.Goals as goal

pub returns-then-line-lines : goal.returns-then-line-lines
returns-then-line-lines c = (rw (lt-ltb _ _ c.if-line-lines.true) c.from.ensures, search rules)

pub returns-else-line-lines : goal.returns-else-line-lines
returns-else-line-lines c = (simp (le-ltb _ _ c.if-line-lines.false), search rules)
