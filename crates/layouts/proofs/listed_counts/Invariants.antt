use mathlib.Core.Path.{◌≡◌}
use lib.ListN.{length, take}
use Rattle.rules.specs.Lists.{filled_to}
use Rattle.rules.specs.Values.{numbers_in}
use Rattle.layouts.proofs.listed_counts.Given as goal

abbrev pub invariant-loop-i : goal.invariant-loop-i
invariant-loop-i l = (length l.counts ≡ 6) × (l.counts ≡ filled_to 6 0 (take l.i (numbers_in l.s)))
