use mathlib.Core.Path.{◌≡◌}
use lib.ListN.{drop}
use Rattle.tags.specs.Table.{entry}
use Rattle.tags.proofs.look_up.Given as goal

abbrev pub invariant-loop-row : goal.invariant-loop-row
invariant-loop-row g l = entry l.key l.fn.rows ≡ entry l.key (drop l.row-index l.row-items)
