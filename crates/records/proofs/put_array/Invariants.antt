use mathlib.Core.Path.{◌≡◌}
use Rattle.fields.specs.Format.{write, array}
use Rattle.records.proofs.put_array.Given as goal

abbrev pub invariant-loop-i : goal.invariant-loop-i
invariant-loop-i g l = l.s ≡ write (array l.i g.T.Record.format) l.xs l.initial.s l.at
