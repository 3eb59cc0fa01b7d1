-- Responses and the created film's data set fit to be written, and fit their buffers.
-- Assumes nothing.
use Prim.Native.Nat.{ℕ, ◌+◌, ◌*◌, ◌≤◌}
use mathlib.Core.Path.{◌≡◌, refl}
use mathlib.Core.Bool.{true}
use mathlib.Core.List.{List, [], ◌∷◌}
use mathlib.Core.Option.{Option, none, some}
use native.Mathlib.Omega.{arith}
use lib.ListN.{length}
use Rattle.octets.specs.Octets.{octets}
use Rattle.octets.proofs.Numbers.{octets_length}
use Rattle.uids.specs.Uids.{is_uid}
use Rattle.uids.proofs.Length.{uid_short}
use Rattle.tags.specs.Table.{SQ, UI, UL, US}
use Rattle.headers.specs.declared.Syntax.{Syntax}
use Rattle.headers.specs.declared.Syntax.TheVariants.{Implicit}
use Rattle.writing.specs.Tree.{Elements, no_elements, value, sequence}
use Rattle.writing.specs.Bytes.{padded, header_size, written, written_items}
use Rattle.writing.specs.Fit.{allowed, HeaderFits, Fit, FitItems}
use Rattle.writing.proofs.Sizes.{size_between, padded_length, value_length, sequence_length, items_length}
use Rattle.writing.proofs.Allowed.{the_forms, below_limit}
use Rattle.rules.specs.Bounds.{command_room, data_room, most_boxes}
use Rattle.rules.specs.Text.{chars, box_class}
use Rattle.rules.specs.declared.Note.{Note}
use Rattle.rules.specs.Responses.{Says, uid_element, number_element, action_element, data_set_type, response_elements, response_tree, reply, box_items, film_tree}
use Rattle.promises.proofs.ListLaws.{Each}

-- what may be left out, and is a UID where it is not
abbrev pub UidOrNone : Option (List ℕ) → Type 0
UidOrNone none = Unit {0}
UidOrNone (some uid) = is_uid uid ≡ true

pub record SaysUids (says : Says) : Type 0 where
  pub class : UidOrNone says.class
  pub instance : UidOrNone says.instance

abbrev pub AllUids : List (List ℕ) → Type 0
AllUids uids = Each (λ (uid : List ℕ). is_uid uid ≡ true) uids

-- A response's elements from a tag on.

abbrev pub from1000 : Says → Elements
from1000 says = uid_element 0x0000_1000 says.instance (action_element says.action)

abbrev pub from0900 : Says → ℕ → Elements
from0900 says status = number_element 0x0000_0900 status (from1000 says)

abbrev pub from0800 : Says → ℕ → List ℕ → Elements
from0800 says status d = number_element 0x0000_0800 (data_set_type d) (from0900 says status)

abbrev pub from0120 : Says → ℕ → List ℕ → Elements
from0120 says status d = number_element 0x0000_0120 says.message (from0800 says status d)

abbrev pub from0100 : Says → ℕ → List ℕ → Elements
from0100 says status d = number_element 0x0000_0100 (says.field + 0x8000) (from0120 says status d)

-- Lengths.

size_implicit : (vr : ℕ) → header_size Implicit vr ≡ 8
unfolding header_size
size_implicit vr = refl

number_bytes_lem : (tag n : ℕ) (more : Elements) → length (written Implicit (number_element tag n more)) ≡ 10 + length (written Implicit more)
number_bytes_lem tag n more =
    omega (arith, value_length Implicit tag more US (octets 2 n), octets_length 2 n, size_implicit US)

uid_bytes_lem : (tag : ℕ) (uid : Option (List ℕ)) (more : Elements) → UidOrNone uid → length (written Implicit (uid_element tag uid more)) ≤ 72 + length (written Implicit more)
uid_bytes_lem tag none more h = omega arith
uid_bytes_lem tag (some uid) more h = omega (arith, uid_short uid h, value_length Implicit tag more UI uid, size_implicit UI)

action_bytes_lem : (kind : Option ℕ) → length (written Implicit (action_element kind)) ≤ 10
unfolding written
action_bytes_lem none = omega arith
action_bytes_lem (some n) = omega (arith, number_bytes_lem 0x0000_1008 n no_elements)

module _ (says : Says) (status : ℕ) (d : List ℕ) (h : SaysUids says) where
  -- what follows the group length has at most 194 bytes
  pub elements_short : length (written Implicit (response_elements says status d)) ≤ 194
  unfolding response_elements
  elements_short =
      omega (
        arith,
        uid_bytes_lem 0x0000_0002 says.class (from0100 says status d) h.class,
        number_bytes_lem 0x0000_0100 (says.field + 0x8000) (from0120 says status d),
        number_bytes_lem 0x0000_0120 says.message (from0800 says status d),
        number_bytes_lem 0x0000_0800 (data_set_type d) (from0900 says status),
        number_bytes_lem 0x0000_0900 status (from1000 says),
        uid_bytes_lem 0x0000_1000 says.instance (action_element says.action) h.instance,
        action_bytes_lem says.action,
      )

  -- the group length is that of what follows
  pub tree_length : length (written Implicit (response_tree says status d)) ≡ 12 + length (written Implicit (response_elements says status d))
  unfolding response_tree
  tree_length =
      let n = length (written Implicit (response_elements says status d)) in
      omega (arith, value_length Implicit 0x0000_0000 (response_elements says status d) UL (octets 4 n), octets_length 4 n, size_implicit UL)

  -- a response fits its buffer
  pub reply_fits : (note : Note) → length (reply says status d note).command ≤ command_room
  unfolding reply
  reply_fits note = omega (arith, tree_length, elements_short)

-- Fitness.

-- what fits where tags start higher fits where they start lower
fit_lower : (syntax : Syntax) (room floor higher : ℕ) (elements : Elements) → floor ≤ higher → Fit syntax room higher elements → Fit syntax room floor elements
fit_lower syntax room floor higher no_elements h f = tt
fit_lower syntax room floor higher (value tag vr bytes more) h f =
    let k : higher ≤ tag = f.0.0 in
    ((omega arith, f.0.1, f.0.2), f.1, f.2)
fit_lower syntax room floor higher (sequence tag items more) h f =
    let k : higher ≤ tag = f.0.0 in
    ((omega arith, f.0.1, f.0.2), f.1, f.2, f.3, f.4)

header_fits : (syntax : Syntax) (floor tag vr : ℕ) (bytes : List ℕ) → floor ≤ tag → allowed tag vr ≡ true → length bytes ≤ 64 → HeaderFits syntax floor tag vr (length (padded vr bytes))
header_fits syntax floor tag vr bytes h a k = (h, a, below_limit syntax vr (length (padded vr bytes)) (omega (arith, padded_length vr bytes)))

fit_number : (syntax : Syntax) (room floor tag n : ℕ) (more : Elements) → floor ≤ tag → allowed tag US ≡ true → Fit syntax room (tag + 1) more → Fit syntax room floor (number_element tag n more)
fit_number syntax room floor tag n more h a f = (header_fits syntax floor tag US (octets 2 n) h a (omega (arith, octets_length 2 n)), refl, f)

fit_uid : (syntax : Syntax) (room floor tag : ℕ) (uid : Option (List ℕ)) (more : Elements) → floor ≤ tag → allowed tag UI ≡ true → UidOrNone uid → Fit syntax room (tag + 1) more → Fit syntax room floor (uid_element tag uid more)
fit_uid syntax room floor tag none more h a s f = fit_lower syntax room floor (tag + 1) more (omega arith) f
fit_uid syntax room floor tag (some uid) more h a s f = (header_fits syntax floor tag UI uid h a (uid_short uid s), refl, f)

fit_action : (syntax : Syntax) (room floor : ℕ) (kind : Option ℕ) → floor ≤ 0x0000_1008 → Fit syntax room floor (action_element kind)
unfolding the_forms
fit_action syntax room floor none h = tt
fit_action syntax room floor (some n) h = fit_number syntax room floor 0x0000_1008 n no_elements h refl tt

-- a response fits to be written
pub response_fit : (syntax : Syntax) (room : ℕ) (says : Says) (status : ℕ) (d : List ℕ) → SaysUids says → Fit syntax room 0 (response_tree says status d)
unfolding response_tree response_elements the_forms
response_fit syntax room says status d h = (
  header_fits syntax 0 0x0000_0000 UL (octets 4 (length (written Implicit (response_elements says status d)))) (omega arith) refl (omega (arith, octets_length 4 (length (written Implicit (response_elements says status d))))),
  refl,
  fit_uid syntax room 1 0x0000_0002 says.class (from0100 says status d) (omega arith) refl h.class
      (fit_number syntax room 0x0000_0003 0x0000_0100 (says.field + 0x8000) (from0120 says status d) (omega arith) refl
      (fit_number syntax room 0x0000_0101 0x0000_0120 says.message (from0800 says status d) (omega arith) refl
      (fit_number syntax room 0x0000_0121 0x0000_0800 (data_set_type d) (from0900 says status) (omega arith) refl
      (fit_number syntax room 0x0000_0801 0x0000_0900 status (from1000 says) (omega arith) refl
      (fit_uid syntax room 0x0000_0901 0x0000_1000 says.instance (action_element says.action) (omega arith) refl h.instance
      (fit_action syntax room 0x0000_1001 says.action (omega arith))))))),
)

-- The created film's data set.

-- an item's list: the class and the UID of an image box
abbrev pub box_tree : List ℕ → Elements
box_tree uid = value 0x0008_1150 UI box_class (value 0x0008_1155 UI uid no_elements)

class_length : length box_class ≡ 21
unfolding chars
class_length = refl

module _ (syntax : Syntax) where
  box_length : (uid : List ℕ) → length uid ≤ 64 → length (written syntax (box_tree uid)) ≤ 110
  unfolding written
  box_length uid k =
      omega (arith, value_length syntax 0x0008_1150 (value 0x0008_1155 UI uid no_elements) UI box_class, value_length syntax 0x0008_1155 no_elements UI uid, (size_between syntax UI).1, class_length)

  boxes_length : (uids : List (List ℕ)) → AllUids uids → length (written_items syntax (box_items uids)) ≤ 118 * length uids
  unfolding written box_items
  boxes_length [] k = omega arith
  boxes_length (uid ∷ uids) k = omega (arith, items_length syntax (box_tree uid) (box_items uids), box_length uid (uid_short uid k.0), boxes_length uids k.1)

  box_fit : (room : ℕ) (uid : List ℕ) → length uid ≤ 64 → Fit syntax room 0 (box_tree uid)
  unfolding the_forms
  box_fit room uid k = (
    header_fits syntax 0 0x0008_1150 UI box_class (omega arith) refl (omega (arith, class_length)),
    refl,
    (header_fits syntax 0x0008_1151 0x0008_1155 UI uid (omega arith) refl k, refl, tt),
  )

  boxes_fit_lem : (room : ℕ) (uids : List (List ℕ)) → AllUids uids → FitItems syntax room (box_items uids)
  unfolding box_items
  boxes_fit_lem room [] k = tt
  boxes_fit_lem room (uid ∷ uids) k = (omega (arith, box_length uid (uid_short uid k.0)), box_fit room uid (uid_short uid k.0), boxes_fit_lem room uids k.1)

  module _ (uids : List (List ℕ)) (k : AllUids uids) (n : length uids ≤ most_boxes) where
    -- it fits to be written, in both syntaxes
    pub film_fit : Fit syntax 4 0 (film_tree uids)
    unfolding film_tree the_forms
    film_fit = (
      (omega arith, refl, below_limit syntax SQ (length (written_items syntax (box_items uids))) (omega (arith, boxes_length uids k))),
      refl,
      omega arith,
      boxes_fit_lem 3 uids k,
      tt,
    )

    -- it fits its buffer
    pub film_fits : length (written syntax (film_tree uids)) ≤ data_room
    unfolding written film_tree
    film_fits = omega (arith, sequence_length syntax 0x2010_0510 no_elements (box_items uids), boxes_length uids k, (size_between syntax SQ).1)
