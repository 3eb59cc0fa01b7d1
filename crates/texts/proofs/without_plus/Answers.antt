use mathlib.Core.Path.{◌∙◌}
use native.Mathlib.Omega.{arith}
use Rattle.octets.proofs.Parts.{rest}
use Rattle.std.proofs.Common.{rules}
use Rattle.texts.proofs.Turns.{plus_none, plus_off, plus_not}
use Rattle.texts.proofs.without_plus.Goals as goal

pub returns-in-43 : goal.returns-in-43
returns-in-43 c = rest c.args.s.now 1 ∙ plus_off _ (λ z. omega (arith, z)) (search rules)

pub returns-in_default : goal.returns-in_default
returns-in_default c = plus_none _ (omega arith)

pub returns-in_default-2 : goal.returns-in_default-2
returns-in_default-2 c = plus_not _ (search rules)
