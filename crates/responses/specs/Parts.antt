-- The parts that a response, the created film's data set and the report are written in.
use Rattle.std.specs.Prelude as declared
use Rattle.std.specs.Prelude.{ℕ, ◌+◌, Bool, true, false, Some, None, List, [], ◌∷◌, ◌++◌, map, eqb, length}
use Rattle.std.proofs.Math.Option.{Option, none, some}
use Rattle.choice.specs.Pick.{pick}
use Rattle.octets.specs.Octets.{octets}
use Rattle.tags.specs.Table.{UI, US}
use Rattle.uids.specs.Uids.{made}
use Rattle.headers.specs.declared.Syntax.{Syntax}
use Rattle.headers.specs.declared.Syntax.TheVariants.{Implicit}
use Rattle.writing.specs.Tree.{Elements, no_elements, value}
use Rattle.writing.specs.Bytes.{item_header, element, written, written_items}
use Rattle.rules.specs.Lists.{from}
use Rattle.rules.specs.Text.{box_class}
use Rattle.rules.specs.Responses.{Says, data_set_type, box_items}

-- What a response says, from what is handed over: an empty UID is one left out.

abbrev pub given : List ℕ → Option (List ℕ)
given uid = pick (eqb (length uid) 0) none (some uid)

abbrev pub action_by : declared.Option ℕ → Option ℕ
action_by (Some kind) = some kind
action_by None = none

unfoldable pub says_by : List ℕ → ℕ → ℕ → List ℕ → declared.Option ℕ → Says
says_by class field message instance action = record {
  class = given class;
  field = field;
  message = message;
  instance = given instance;
  action = action_by action;
}

-- a response's command tells of its data set only whether there is one
abbrev pub data_shown : Bool → List ℕ
data_shown true = 0 ∷ []
data_shown false = []

-- The elements of a response, as bytes.

abbrev pub number_bytes : ℕ → ℕ → List ℕ
number_bytes tag n = element Implicit tag US (octets 2 n)

unfoldable pub uid_bytes : ℕ → List ℕ → List ℕ
uid_bytes tag uid = pick (eqb (length uid) 0) [] (element Implicit tag UI uid)

abbrev pub action_bytes : declared.Option ℕ → List ℕ
action_bytes (Some kind) = number_bytes 0x0000_1008 kind
action_bytes None = []

-- class, field and message number
unfoldable pub said_first : List ℕ → ℕ → ℕ → List ℕ
said_first class field message =
    uid_bytes 0x0000_0002 class ++ (number_bytes 0x0000_0100 (field + 0x8000) ++ number_bytes 0x0000_0120 message)

-- data set type, status, instance and action type
unfoldable pub said_then : Bool → ℕ → List ℕ → declared.Option ℕ → List ℕ
said_then withData status instance action =
    number_bytes 0x0000_0800 (data_set_type (data_shown withData))
    ++ (number_bytes 0x0000_0900 status ++ (uid_bytes 0x0000_1000 instance ++ action_bytes action))

-- The created film's data set: an item's list, the item of a box, and the items of as many boxes as are asked for.

abbrev pub box_tree : List ℕ → Elements
box_tree uid = value 0x0008_1150 UI box_class (value 0x0008_1155 UI uid no_elements)

unfoldable pub box_bytes : Syntax → List ℕ → List ℕ
box_bytes syntax uid = item_header (length (written syntax (box_tree uid))) ++ written syntax (box_tree uid)

unfoldable pub boxes_bytes : Syntax → List ℕ → ℕ → ℕ → List ℕ
boxes_bytes syntax root first count = written_items syntax (box_items (map (made root) (from first count)))

-- The report: status, lengths of command and data set, and a note's kind with its three numbers.
unfoldable pub report_by : ℕ → ℕ → ℕ → ℕ → ℕ → ℕ → ℕ → List ℕ
report_by status command size kind first second third =
    octets 2 status
    ++ (octets 2 command ++ (octets 2 size ++ (octets 2 kind ++ (octets 4 first ++ (octets 4 second ++ octets 4 third)))))
