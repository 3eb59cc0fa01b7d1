-- The parts of a slice that code lends from a place on, or of so many bytes.
-- Assumes nothing.
use Prim.Native.Nat.{ℕ, ◌+◌, ◌-◌, ◌<◌, ◌≤◌}
use mathlib.Core.Path.{◌≡◌, ◌∙◌}
use mathlib.Core.List.{List}
use native.Mathlib.Omega.{arith}
use lib.ListN.{length, get_or, take, drop, length-take, length-drop}
use lib.Seq.{take_all, get_or-take, get_or-drop}
use Rattle.octets.specs.Octets.{part}

pub rest : (s : List ℕ) (at : ℕ) → take (length s - at) (drop at s) ≡ drop at s
rest s at = take_all (length s - at) (drop at s) (omega (arith, length-drop at s))

pub part_length : (s : List ℕ) (at w : ℕ) → at + w ≤ length s → length (part s at (at + w)) ≡ w
part_length s at w h = simp (length-take, length-drop) (omega arith)

pub part_byte : (s : List ℕ) (at w i : ℕ) → i < w → get_or (part s at (at + w)) i 0 ≡ get_or s (at + i) 0
part_byte s at w i h = get_or-take (at + w - at) (drop at s) i 0 (omega arith) ∙ get_or-drop at s i 0
