use mathlib.Core.Path.{◌≡◌}
use mathlib.Core.List.{◌∷◌}
use lib.ListN.{drop}
use Rattle.rules.specs.Sound.{own_serial, serials_of}
use Rattle.records.specs.Places.{session_in}
use Rattle.distinct.specs.Films.{films_in}
use Rattle.distinct.specs.Ascending.{reaches}
use Rattle.distinct.proofs.all_reach.Given as goal

abbrev pub invariant-loop-i : goal.invariant-loop-i
invariant-loop-i l = reaches 0 (own_serial (session_in l.b).name ∷ serials_of (films_in l.b l.n)) ≡ reaches l.stop (serials_of (drop l.i (films_in l.b l.n)))
