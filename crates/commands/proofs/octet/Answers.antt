use mathlib.Core.Path.{refl, sym}
use native.Mathlib.Omega.{arith}
use lib.ListN.{get_or-eq_default}
use borrow.Author.Rules.{rules}
use Rattle.commands.proofs.octet.Goals as goal

pub returns-then-c-at : goal.returns-then-c-at
returns-then-c-at c = (sym (get_or-eq_default c.args.c.now 0 c.if-c-at.true), search rules)

pub overflow_cast-result : goal.overflow_cast-result
overflow_cast-result c = omega (arith, c.shared_slice_known-1.given c.args.at)

pub returns : goal.returns
returns c = (refl, omega (arith, c.shared_slice_known-1.given c.args.at))
