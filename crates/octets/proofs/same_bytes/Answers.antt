use mathlib.Core.Path.{sym, ◌∙◌}
use borrow.Author.Tests.{ne_eqb}
use Rattle.std.proofs.Common.{rules}
use Rattle.std.proofs.iter.runs.Made.{chains}
use Rattle.octets.proofs.Same.{same_each, same_length}
use Rattle.octets.proofs.same_bytes.Goals as goal

pub returns-then-s-t : goal.returns-then-s-t
returns-then-s-t c = same_each _ _ _ c.if-s-t.true (search (rules, chains))

pub returns-else-s-t : goal.returns-else-s-t
returns-else-s-t c = ne_eqb _ _ c.if-s-t.false ∙ sym (same_length _ _ c.if-s-t.false)
