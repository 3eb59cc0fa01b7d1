use Rattle.std.proofs.Common.{◌≡◌, ◌<◌, ◌^◌}
use Rattle.octets.specs.Octets.{big_number_at}
use Rattle.octets.proofs.big_number_at.Given as goal

abbrev pub invariant-loop-b : goal.invariant-loop-b
invariant-loop-b l = (l.v ≡ big_number_at l.b-index l.s l.at) × (l.v < 256 ^ l.b-index)
