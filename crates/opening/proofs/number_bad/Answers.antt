use mathlib.Core.Path.{sym}
use lib.Dec.{eqb}
use Rattle.opening.proofs.Answers.{either_none}
use borrow.Author.Tests.{lt-leb}
use Rattle.rules.specs.Bounds.{none_left}
use borrow.Author.Rules.{rules}
use Rattle.opening.proofs.number_bad.Goals as goal

pub returns : goal.returns
returns c = sym (rw (lt-leb none_left c.args.n (search rules)) (either_none (eqb c.args.n 0)))
