-- How badly an attribute stands, as a number: check 8 asks for the worst.
use Rattle.std.specs.Prelude.{ℕ, Bool, true, false, List, eqb, ltb}
use Rattle.choice.specs.Pick.{pick, not}
use Rattle.elements.specs.declared.Found.{Found}
use Rattle.elements.specs.declared.Found.TheVariants.{Missing, Value, Sequence}
use Rattle.rules.specs.Lists.{any}
use Rattle.rules.specs.Attributes.{Standing, missing, empty, wrong, fine, is}

-- nothing, a value, a sequence
abbrev pub kind_of : Found → ℕ
kind_of Missing = 0
kind_of (Value p) = 1
kind_of (Sequence inside) = 2

abbrev pub severity : Standing → ℕ
severity missing = 3
severity empty = 2
severity wrong = 1
severity fine = 0

-- a mandatory attribute of this kind, whose value is empty or not, allowed or not
unfoldable pub severity_by : ℕ → Bool → Bool → ℕ
severity_by kind is_empty allowed = pick (eqb kind 0) 3 (pick (eqb kind 2) 1 (pick is_empty 2 (pick allowed 0 1)))

-- an optional one
unfoldable pub optional_by : ℕ → Bool → Bool → ℕ
optional_by kind is_empty allowed = pick (eqb (severity_by kind is_empty allowed) 1) 1 0

unfoldable pub given_by : ℕ → Bool → Bool
given_by kind is_empty = pick (eqb kind 0) false (pick (eqb kind 2) true (not is_empty))

unfoldable pub worse : ℕ → ℕ → ℕ
worse a b = pick (ltb a b) b a

abbrev pub rank : Bool → Bool → Bool → ℕ
rank anyMissing anyEmpty anyWrong = pick anyMissing 3 (pick anyEmpty 2 (pick anyWrong 1 0))

-- of all that stand there
unfoldable pub worst : List Standing → ℕ
worst standings = rank (any (is missing) standings) (any (is empty) standings) (any (is wrong) standings)

-- "any mandatory attribute missing 0120H; else any empty 0121H; else any value not allowed 0106H"; 0 where none
unfoldable pub status_of : ℕ → ℕ
status_of n = pick (eqb n 3) 0x0120 (pick (eqb n 2) 0x0121 (pick (eqb n 1) 0x0106 0))
