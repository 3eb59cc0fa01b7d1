-- Requests, rules 6.20 to 6.23: the response, and the created film's data set.
use Rattle.std.specs.Prelude.{ℕ, ◌+◌, ◌≤◌, Bool, List, [], ◌∷◌, eqb, length, Some, None}
use Rattle.std.specs.Prelude as std
use Rattle.std.proofs.Math.Option.{Option, none, some}
use Rattle.choice.specs.Pick.{pick, either, not}
use Rattle.octets.specs.Octets.{octets}
use Rattle.tags.specs.Table.{UI, UL, US}
use Rattle.headers.specs.declared.Syntax.TheVariants.{Implicit}
use Rattle.writing.specs.Tree.{Elements, no_elements, value, sequence, Items, no_items, item}
use Rattle.writing.specs.Bytes.{written}
use Rattle.rules.specs.declared.Core.{Core}
use Rattle.rules.specs.declared.Note.{Note}
use Rattle.rules.specs.declared.NewBoxes.{NewBoxes}
use Rattle.rules.specs.Bounds.{most_boxes, none_left}
use Rattle.rules.specs.Text.{box_class}
use Rattle.rules.specs.Records.{uids_from, syntax_in}

-- what a response says; a class, an instance or an action type may be left out
pub record Says : Type 0 where
  pub class : Option (List ℕ)
  pub field : ℕ
  pub message : ℕ
  pub instance : Option (List ℕ)
  pub action : Option ℕ

-- "warning B602H (session) or B603H (film)"
abbrev pub is_warning : ℕ → Bool
is_warning status = either (eqb status 0xB602) (eqb status 0xB603)

-- a status that is neither 0000H nor a warning
abbrev pub is_failure : ℕ → Bool
is_failure status = not (either (eqb status 0x0000) (is_warning status))

pub record Reply : Type 0 where
  pub status : ℕ
  pub command : List ℕ
  pub data_set : List ℕ
  pub note : Note

abbrev pub uid_element : ℕ → Option (List ℕ) → Elements → Elements
uid_element tag none more = more
uid_element tag (some uid) more = value tag UI uid more

abbrev pub number_element : ℕ → ℕ → Elements → Elements
number_element tag n more = value tag US (octets 2 n) more

abbrev pub action_element : Option ℕ → Elements
action_element none = no_elements
action_element (some kind) = number_element 0x0000_1008 kind no_elements

-- "data set type (0101H none, 0001H with data)"
abbrev pub data_set_type : List ℕ → ℕ
data_set_type d = pick (eqb (length d) 0) 0x0101 0x0001

-- what follows the group length, in ascending tags
unfoldable pub response_elements : Says → ℕ → List ℕ → Elements
response_elements says status d =
    uid_element 0x0000_0002 says.class
    (number_element 0x0000_0100 (says.field + 0x8000)
    (number_element 0x0000_0120 says.message
    (number_element 0x0000_0800 (data_set_type d)
    (number_element 0x0000_0900 status
    (uid_element 0x0000_1000 says.instance (action_element says.action))))))

unfoldable pub response_tree : Says → ℕ → List ℕ → Elements
response_tree says status d =
    value 0x0000_0000 UL (octets 4 (length (written Implicit (response_elements says status d)))) (response_elements says status d)

unfoldable pub reply : Says → ℕ → List ℕ → Note → Reply
reply says status d note = record { status = status; command = written Implicit (response_tree says status d); data_set = d; note = note }

-- "an item per box in order, with (0008,1150), (0008,1155)"
unfoldable pub box_items : List (List ℕ) → Items
box_items [] = no_items
box_items (uid ∷ uids) = item (value 0x0008_1150 UI box_class (value 0x0008_1155 UI uid no_elements)) (box_items uids)

unfoldable pub film_tree : List (List ℕ) → Elements
film_tree uids = sequence 0x2010_0510 (box_items uids) no_elements

-- the boxes of one film, with serials of 32 bits
abbrev pub ContentsFit : std.Option NewBoxes → Type 0
ContentsFit None = Unit {0}
ContentsFit (Some boxes) = (boxes.count ≤ most_boxes) × (boxes.first + boxes.count ≤ none_left)

-- "Only a created film has data": the answer's data set, in the open's syntax
abbrev pub data_set_of : Core → std.Option NewBoxes → List ℕ
data_set_of k None = []
data_set_of k (Some boxes) = written (syntax_in k) (film_tree (uids_from k.numbers boxes.first boxes.count))
