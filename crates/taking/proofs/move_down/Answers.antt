use Prim.Native.Nat.{◌*◌}
use mathlib.Core.Path.{◌∙◌}
use native.Mathlib.Omega.{arith}
use Rattle.rules.specs.Layout.{entry_size}
use Rattle.taking.specs.Oldest.{entries_place}
use Rattle.taking.proofs.Moved.{moved_all}
use Rattle.taking.proofs.move_down.Goals as goal

pub returns : goal.returns
returns c =
    c.copy_within.ensures.after ∙ moved_all c.args.records.now entries_place entry_size (15 * entry_size) (omega arith)
