use Rattle.std.proofs.Common.{◌≡◌, ◌-◌, ◌++◌, take}
use Rattle.octets.specs.Octets.{octets}
use Rattle.octets.proofs.put_number.Given as goal

abbrev pub invariant-loop-b : goal.invariant-loop-b
invariant-loop-b l = octets l.width l.x ≡ take l.b-index l.b-items ++ octets (l.width - l.b-index) l.v
