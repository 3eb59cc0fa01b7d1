-- What is read lies between the place where it begins and the enclosing end.
-- Assumes nothing.
use Prim.Native.Nat.{ℕ, ◌≤◌, ◌<◌}
use mathlib.Core.List.{List, [], ◌∷◌}
use Rattle.std.specs.Prelude.{Result, Ok, Err}
use Rattle.headers.proofs.Within.{most_refusal, Fits}
use Rattle.elements.specs.declared.Stop.{Stop}
use Rattle.elements.specs.declared.Found.{Found}
use Rattle.elements.specs.declared.Found.TheVariants.{Missing, Value, Sequence}
use Rattle.elements.specs.declared.Items.{Items}
use Rattle.elements.specs.declared.Items.TheVariants.{Empty, One, Several}
use Rattle.elements.specs.Walk.{Next, again, done}
use Rattle.elements.specs.Reader.{most_nested}

-- the place after what was read is at least `low` and at most `end`; a reading stops no later, in no more sequences than are read
abbrev pub ReadIn : ℕ → ℕ → Result ℕ Stop → Type 0
ReadIn low end (Ok q) = (low ≤ q) × (q ≤ end)
ReadIn low end (Err stop) = (stop.number ≤ most_refusal) × (stop.place ≤ end) × (stop.depth ≤ most_nested)

-- a step goes on from a further place, or ends
abbrev pub NextIn : {S : Type 0} → (S → ℕ) → ℕ → ℕ → Next S → Type 0
NextIn place low end (again y) = (low < place y) × (place y ≤ end)
NextIn place low end (done r) = ReadIn low end r

-- every state of a trail is within
abbrev pub AllIn : {S : Type 0} → (S → ℕ) → ℕ → ℕ → List S → Type 0
AllIn place low end [] = Unit {0}
AllIn place low end (x ∷ xs) = ((low ≤ place x) × (place x ≤ end)) × AllIn place low end xs

abbrev pub FoundIn : ℕ → ℕ → Found → Type 0
FoundIn low end Missing = Unit {0}
FoundIn low end (Value part) = Fits low part.from part.stop end
FoundIn low end (Sequence inside) = Fits low inside.from inside.stop end

abbrev pub ItemsIn : ℕ → ℕ → Items → Type 0
ItemsIn low end Empty = Unit {0}
ItemsIn low end (One inside) = Fits low inside.from inside.stop end
ItemsIn low end (Several n) = Unit {0}
