-- What is at each place of a command, where its places are held.
-- Assumes nothing.
use Prim.Native.Nat.{ℕ, ◌-◌, ◌≤◌, ◌<◌}
use mathlib.Core.Path.{◌≡◌, ap}
use mathlib.Core.List.{List}
use native.Mathlib.Omega.{arith}
use lib.Dec.{eqb}
use lib.ListN.{length, get_or}
use Rattle.octets.specs.Octets.{number_at}
use Rattle.uids.specs.Uids.{is_uid}
use Rattle.headers.specs.declared.Syntax.TheVariants.{Implicit}
use Rattle.headers.specs.declared.Part.{Part}
use Rattle.elements.specs.declared.Found.{Found}
use Rattle.elements.specs.declared.Found.TheVariants.{Missing, Value, Sequence}
use Rattle.elements.specs.Reader.{data_scope}
use Rattle.elements.proofs.Within.{FoundIn}
use Rattle.elements.proofs.Laws.{find_within}
use Rattle.rules.specs.Commands.{in_command, no_part, placed, size, uid_at, has_number, number_in, has_uid}
use Rattle.commands.specs.Within.{PartIn}
use Rattle.commands.specs.Places.{slot_of, Holds}
use Rattle.commands.proofs.Within.{placed_in}

-- a value stands behind a header
found_behind : (n : ℕ) (f : Found) → FoundIn 8 n f → size (placed f) ≤ (placed f).stop - 8
found_behind n Missing g = omega arith
found_behind n (Value p) g = omega (arith, g.0, g.1.0)
found_behind n (Sequence inside) g = omega arith

module _ {c : List ℕ} {places : List Part} (h : Holds c places) (tag : ℕ) (l : slot_of tag < 9) where
  pub held_in : PartIn (length c) (get_or places (slot_of tag) no_part)
  held_in = rw (h.each tag l) (placed_in c tag)

  pub held_behind : size (get_or places (slot_of tag) no_part) ≤ (get_or places (slot_of tag) no_part).stop - 8
  held_behind = rw (h.each tag l) (found_behind (length c) (in_command c tag) (find_within c (data_scope c Implicit) tag (omega arith)))

  pub held_size : eqb (size (get_or places (slot_of tag) no_part)) 2 ≡ has_number c tag
  held_size = ap (λ p. eqb (size p) 2) (h.each tag l)

  pub held_number : number_at 2 c (get_or places (slot_of tag) no_part).from ≡ number_in c tag
  held_number = ap (λ p. number_at 2 c p.from) (h.each tag l)

  pub held_uid : is_uid (uid_at c (get_or places (slot_of tag) no_part)) ≡ has_uid c tag
  held_uid = ap (λ p. is_uid (uid_at c p)) (h.each tag l)

-- a length of four bytes stands behind a header of eight
pub twelve_at_least : {c : List ℕ} {places : List Part} → Holds c places → size (get_or places 0 no_part) ≡ 4 → 12 ≤ length c
unfolding slot_of
twelve_at_least h e =
    let i = held_in h 0x0000_0000 (omega arith) in
    let b = held_behind h 0x0000_0000 (omega arith) in
    omega arith
