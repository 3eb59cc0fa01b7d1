use Prim.Native.Nat.{◌+◌, ◌-◌}
use Rattle.finding.proofs.Gathering.{Gathering}
use Rattle.finding.proofs.gathered.Given as goal

abbrev pub invariant-loop-k : goal.invariant-loop-k
invariant-loop-k g l = Gathering l.s l.scope l.tags g.row.N l.founds l.p l.floor l.k

abbrev pub decreases-loop-k : goal.decreases-loop-k
decreases-loop-k g l = (l.scope.inside.stop - l.p) + (g.row.N - l.k)
