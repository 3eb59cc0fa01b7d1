use mathlib.Core.Path.{◌≡◌}
use lib.ListN.{length, take}
use Rattle.fields.specs.Format.{array}
use Rattle.records.proofs.array_at.Given as goal

abbrev pub invariant-loop-i : goal.invariant-loop-i
invariant-loop-i g l = (length l.x-items ≡ g.row.N) × (take l.i l.x-items ≡ (array l.i g.T.Record.format).read l.s l.at)
