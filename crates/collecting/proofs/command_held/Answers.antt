use Prim.Native.Nat.{ℕ, ◌+◌}
use mathlib.Core.Path.{ap}
use Rattle.rules.specs.Layout.{core_size}
use Rattle.collecting.proofs.Written.{command_in}
use Rattle.records.proofs.Whole.{whole}
use Rattle.collecting.proofs.command_held.Goals as goal

pub returns : goal.returns
returns c =
    command_in c.args.b.now (whole _ c.told-b) c.requires.0 _ (ap (λ (n : ℕ). core_size + 7 + n) c.used-stop.ensures.0)
