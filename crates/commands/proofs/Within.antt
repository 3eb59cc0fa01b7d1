-- The values of a command set lie within it.
-- Assumes nothing.
use Prim.Native.Nat.{ℕ}
use mathlib.Core.List.{List}
use native.Mathlib.Omega.{arith}
use lib.ListN.{length}
use Rattle.headers.specs.declared.Syntax.TheVariants.{Implicit}
use Rattle.elements.specs.declared.Found.{Found}
use Rattle.elements.specs.declared.Found.TheVariants.{Missing, Value, Sequence}
use Rattle.elements.specs.Reader.{data_scope}
use Rattle.elements.proofs.Within.{FoundIn}
use Rattle.elements.proofs.Laws.{find_within}
use Rattle.rules.specs.Commands.{in_command, placed}
use Rattle.commands.specs.Within.{PartIn}

found_place : (n : ℕ) (f : Found) → FoundIn 8 n f → PartIn n (placed f)
found_place n Missing g = (omega arith, omega arith)
found_place n (Value p) g = (g.1.0, g.1.1)
found_place n (Sequence inside) g = (omega arith, omega arith)

-- a value stands within its command
pub placed_in : (c : List ℕ) (tag : ℕ) → PartIn (length c) (placed (in_command c tag))
placed_in c tag = found_place (length c) (in_command c tag) (find_within c (data_scope c Implicit) tag (omega arith))
