use mathlib.Core.Path.{◌≡◌}
use lib.ListN.{drop}
use Rattle.choice.specs.Pick.{both}
use Rattle.rules.specs.Sound.{zeros}
use Rattle.names.proofs.all_zero.Given as goal

abbrev pub invariant-loop-b : goal.invariant-loop-b
invariant-loop-b l = zeros l.s ≡ both l.clear (zeros (drop l.b-index l.s))
