use Prim.Native.Nat.{◌-◌, ◌≤◌}
use mathlib.Core.Path.{◌≡◌}
use lib.ListN.{length}
use Rattle.commands.specs.Places.{whole_command}
use Rattle.commands.proofs.Gathering.{whole_from, Gathering}
use Rattle.commands.proofs.gathered.Given as goal

abbrev pub invariant-loop-parts : goal.invariant-loop-parts
invariant-loop-parts l = (l.p ≤ length l.c) × (whole_command l.c ≡ whole_from l.c l.p l.floor) × Gathering l.c l.p l.floor l.parts

abbrev pub decreases-loop-parts : goal.decreases-loop-parts
decreases-loop-parts l = length l.c - l.p
