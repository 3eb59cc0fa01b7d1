use Rattle.std.proofs.Common.{◌≡◌, ◌+◌, ◌-◌, ◌<◌, ◌≤◌, ◌^◌, length, take, drop}
use Rattle.octets.specs.Octets.{number_at}
use Rattle.octets.proofs.number_at.Given as goal

abbrev pub invariant-loop-b : goal.invariant-loop-b
invariant-loop-b l =
    let before = l.b-iterator.iter.rest.now in
    let n = length before in
    (n ≤ l.width) × (before ≡ take n (drop l.at l.s)) × (l.v ≡ number_at (l.width - n) l.s (l.at + n)) × (l.v < 256 ^ (l.width - n))
