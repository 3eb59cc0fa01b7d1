use mathlib.Core.Path.{◌∙◌, ap}
use native.Mathlib.Omega.{arith}
use Rattle.rules.specs.Commands.{understood}
use Rattle.rules.specs.Sound.{readable}
use Rattle.soundness.proofs.InPlace.{held}
use Rattle.soundness.proofs.held_readable.Goals as goal

pub returns : goal.returns
returns c =
    let e = c.u16_at-stop.ensures.0 in
    c.is_readable.ensures ∙ ap readable (c.understood.ensures ∙ ap understood (held c.args.b.now (omega (arith, c.type_inv.b)) e (omega (arith, e, c.requires))))
