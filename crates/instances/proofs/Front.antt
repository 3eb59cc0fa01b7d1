-- The core in the front of what is lent is the core in all of it.
-- Assumes nothing.
use Prim.Native.Nat.{ℕ, ◌≤◌}
use mathlib.Core.Path.{◌≡◌, sym, ap, ◌∙◌}
use mathlib.Core.List.{List}
use lib.ListN.{length, take}
use Rattle.octets.specs.Octets.{Bytes}
use Rattle.rules.specs.Layout.{records_size, unpack}
use Rattle.records.specs.Places.{core_in}
use Rattle.records.proofs.Parts.{unpack_core}
use Rattle.runs.proofs.Longer.{unpacked_alone}

pub core_front : (s front : List ℕ) → Bytes s → records_size ≤ length s → front ≡ take records_size s → core_in front ≡ core_in s
core_front s front o h e = ap core_in e ∙ sym (unpack_core (take records_size s)) ∙ ap (λ u. u.core) (unpacked_alone s o h) ∙ unpack_core s
