-- The places of a command: where the value of each element that is looked at stands, and one for all others.
use Rattle.std.specs.Prelude.{ℕ, ◌<◌, ◌≡◌, Bool, true, false, List, eqb, length, get_or, Option, Some, None}
use Rattle.choice.specs.Pick.{pick, both}
use Rattle.headers.specs.declared.Syntax.TheVariants.{Implicit}
use Rattle.headers.specs.declared.Part.{Part}
use Rattle.elements.specs.Reader.{data_set}
use Rattle.rules.specs.Commands.{in_command, no_part, placed, is_read, group_zero}

-- which place is that of a tag; 9 is that of all others
unfoldable pub slot_of : ℕ → ℕ
slot_of tag =
    pick (eqb tag 0x0000_0000) 0
    (pick (eqb tag 0x0000_0002) 1
    (pick (eqb tag 0x0000_0003) 2
    (pick (eqb tag 0x0000_0100) 3
    (pick (eqb tag 0x0000_0110) 4
    (pick (eqb tag 0x0000_0800) 5
    (pick (eqb tag 0x0000_1000) 6
    (pick (eqb tag 0x0000_1001) 7
    (pick (eqb tag 0x0000_1008) 8 9))))))))

-- each place but the last is where the value of its tag stands
pub record Holds (c : List ℕ) (places : List Part) : Type 0 where
  pub all : length places ≡ 10
  pub each : (tag : ℕ) → slot_of tag < 9 → get_or places (slot_of tag) no_part ≡ placed (in_command c tag)

-- "elements all in group 0000", in a command that can be read
unfoldable pub whole_command : List ℕ → Bool
whole_command c = both (is_read (data_set c Implicit)) (group_zero c)

-- the places of a whole command, and nothing of another
abbrev pub Gathers : List ℕ → Option (List Part) → Type 0
Gathers c None = whole_command c ≡ false
Gathers c (Some places) = (whole_command c ≡ true) × Holds c places
