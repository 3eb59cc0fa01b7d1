-- What a command set says of places lies within its bytes.
use Rattle.std.specs.Prelude.{ℕ, ◌≤◌}
use Rattle.headers.specs.declared.Part.{Part}
use Rattle.rules.specs.declared.Operation.{Operation}
use Rattle.rules.specs.declared.Operation.TheVariants.{Echo, Create, Set, Act, Delete}

-- a place within so many bytes
abbrev pub PartIn : ℕ → Part → Type 0
PartIn n p = (p.from ≤ p.stop) × (p.stop ≤ n)

abbrev pub OperationIn : ℕ → Operation → Type 0
OperationIn n (Echo v) = PartIn n v.class
OperationIn n (Create v) = PartIn n v.class × PartIn n v.sent
OperationIn n (Set t) = PartIn n t.class × PartIn n t.instance
OperationIn n (Act a) = PartIn n a.class × PartIn n a.instance
OperationIn n (Delete t) = PartIn n t.class × PartIn n t.instance
