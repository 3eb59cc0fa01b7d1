use mathlib.Core.Path.{◌∙◌}
use native.Mathlib.Omega.{arith}
use Rattle.records.proofs.Texts.{root_stands}
use Rattle.records.proofs.root_in.Goals as goal

pub overflow_cast-b : goal.overflow_cast-b
overflow_cast-b c = omega (arith, c.type_inv.b 0)

pub returns : goal.returns
returns c =
    c.front.ensures ∙ root_stands c.args.b.now c.requires
