-- Examples of the rules, and trees that fit to be written.
-- Assumes nothing.
use Prim.Native.Nat.{ℕ, ◌*◌, ◌≤◌}
use mathlib.Core.Path.{◌≡◌, refl}
use mathlib.Core.Bool.{true}
use mathlib.Core.List.{List, [], ◌∷◌}
use native.Mathlib.Omega.{arith}
use borrow.Author.Rules.{rules}
use lib.ListN.{length}
use Rattle.std.specs.Prelude.{Ok}
use Rattle.octets.specs.Octets.{octets}
use Rattle.tags.specs.Table.{IS, SQ, UI, UL, US, form_of}
use Rattle.headers.specs.declared.Syntax.{Syntax}
use Rattle.headers.specs.declared.Syntax.TheVariants.{Implicit, Explicit}
use Rattle.elements.specs.Reader.{data_set}
use Rattle.writing.specs.Tree.{Elements, no_elements, value, sequence, Items, no_items, item}
use Rattle.writing.specs.Bytes.{padded, tag_octets, vr_octets, plain, header, element, written, written_items}
use Rattle.writing.specs.Fit.{allowed, limit, HeaderFits, Fit, FitItems}
use Rattle.writing.proofs.Sizes.{size_between, padded_length, value_length, sequence_length, items_length}
use Rattle.writing.proofs.Allowed.{the_forms, below_limit}
use Rattle.writing.proofs.ListBack.{data_set_back}

-- the bytes of a tree, under one name
unfoldable the_bytes : Unit {0}
unfolding octets form_of padded tag_octets vr_octets plain header element written
the_bytes = tt

copies : Elements
copies = value 0x2000_0010 IS (0x32 ∷ []) no_elements

P1 : written Implicit copies ≡ 0x00 ∷ 0x20 ∷ 0x10 ∷ 0x00 ∷ 0x02 ∷ 0x00 ∷ 0x00 ∷ 0x00 ∷ 0x32 ∷ 0x20 ∷ []
unfolding copies the_bytes
P1 = refl

P2 : written Explicit copies ≡ 0x00 ∷ 0x20 ∷ 0x10 ∷ 0x00 ∷ 0x49 ∷ 0x53 ∷ 0x02 ∷ 0x00 ∷ 0x32 ∷ 0x20 ∷ []
unfolding copies the_bytes
P2 = refl

-- the response to C-ECHO number 7: "1.2.840.10008.1.1" is padded with one zero
echoed : Elements
echoed =
    value 0x0000_0000 UL (octets 4 66)
    (value 0x0000_0002 UI (0x31 ∷ 0x2E ∷ 0x32 ∷ 0x2E ∷ 0x38 ∷ 0x34 ∷ 0x30 ∷ 0x2E ∷ 0x31 ∷ 0x30 ∷ 0x30 ∷ 0x30 ∷ 0x38 ∷ 0x2E ∷ 0x31 ∷ 0x2E ∷ 0x31 ∷ [])
    (value 0x0000_0100 US (octets 2 0x8030)
    (value 0x0000_0120 US (octets 2 7)
    (value 0x0000_0800 US (octets 2 0x0101)
    (value 0x0000_0900 US (octets 2 0x0000) no_elements)))))

P12 : written Implicit echoed
    ≡ 0x00 ∷ 0x00 ∷ 0x00 ∷ 0x00 ∷ 0x04 ∷ 0x00 ∷ 0x00 ∷ 0x00 ∷ 0x42 ∷ 0x00 ∷ 0x00 ∷ 0x00
    ∷ 0x00 ∷ 0x00 ∷ 0x02 ∷ 0x00 ∷ 0x12 ∷ 0x00 ∷ 0x00 ∷ 0x00 ∷ 0x31 ∷ 0x2E ∷ 0x32 ∷ 0x2E ∷ 0x38 ∷ 0x34 ∷ 0x30 ∷ 0x2E ∷ 0x31 ∷ 0x30 ∷ 0x30 ∷ 0x30 ∷ 0x38 ∷ 0x2E ∷ 0x31 ∷ 0x2E ∷ 0x31 ∷ 0x00
    ∷ 0x00 ∷ 0x00 ∷ 0x00 ∷ 0x01 ∷ 0x02 ∷ 0x00 ∷ 0x00 ∷ 0x00 ∷ 0x30 ∷ 0x80
    ∷ 0x00 ∷ 0x00 ∷ 0x20 ∷ 0x01 ∷ 0x02 ∷ 0x00 ∷ 0x00 ∷ 0x00 ∷ 0x07 ∷ 0x00
    ∷ 0x00 ∷ 0x00 ∷ 0x00 ∷ 0x08 ∷ 0x02 ∷ 0x00 ∷ 0x00 ∷ 0x00 ∷ 0x01 ∷ 0x01
    ∷ 0x00 ∷ 0x00 ∷ 0x00 ∷ 0x09 ∷ 0x02 ∷ 0x00 ∷ 0x00 ∷ 0x00 ∷ 0x00 ∷ 0x00
    ∷ []
unfolding echoed the_bytes
P12 = refl

-- the reader takes it whole: 78 bytes
echoed_fits : Fit Implicit 4 0 echoed
unfolding echoed padded octets limit the_forms
echoed_fits = search rules

echoed_read : data_set (written Implicit echoed) Implicit ≡ Ok 78
unfolding echoed the_bytes
echoed_read = data_set_back Implicit echoed echoed_fits

-- Referenced Image Box Sequence: an item for each of the image boxes, with their class and its own UID
abbrev box : List ℕ → List ℕ → Elements
box class uid = value 0x0008_1150 UI class (value 0x0008_1155 UI uid no_elements)

boxes : List ℕ → List (List ℕ) → Items
boxes class [] = no_items
boxes class (uid ∷ uids) = item (box class uid) (boxes class uids)

abbrev referenced : List ℕ → List (List ℕ) → Elements
referenced class uids = sequence 0x2010_0510 (boxes class uids) no_elements

-- each UID has at most 64 characters
Short : List (List ℕ) → Type 0
Short [] = Unit {0}
Short (uid ∷ uids) = (length uid ≤ 64) × Short uids

module _ (syntax : Syntax) (class : List ℕ) (h : length class ≤ 64) where
  box_length : (uid : List ℕ) → length uid ≤ 64 → length (written syntax (box class uid)) ≤ 154
  unfolding written
  box_length uid k =
      omega (arith, value_length syntax 0x0008_1150 (value 0x0008_1155 UI uid no_elements) UI class, value_length syntax 0x0008_1155 no_elements UI uid, (size_between syntax UI).1)

  boxes_length : (uids : List (List ℕ)) → Short uids → length (written_items syntax (boxes class uids)) ≤ 162 * length uids
  unfolding written boxes Short
  boxes_length [] k = omega arith
  boxes_length (uid ∷ uids) k = omega (arith, items_length syntax (box class uid) (boxes class uids), box_length uid k.0, boxes_length uids k.1)

  ui_fits : (floor tag : ℕ) (uid : List ℕ) → floor ≤ tag → allowed tag UI ≡ true → length uid ≤ 64 → HeaderFits syntax floor tag UI (length (padded UI uid))
  ui_fits floor tag uid a b k = (a, b, below_limit syntax UI (length (padded UI uid)) (omega (arith, padded_length UI uid)))

  boxes_fit_lem : (room : ℕ) (uids : List (List ℕ)) → Short uids → FitItems syntax room (boxes class uids)
  unfolding boxes Short the_forms
  boxes_fit_lem room [] k = tt
  boxes_fit_lem room (uid ∷ uids) k = (
    omega (arith, box_length uid k.0),
    (ui_fits 0 0x0008_1150 class (omega arith) refl h, refl, (ui_fits 0x0008_1151 0x0008_1155 uid (omega arith) refl k.0, refl, tt)),
    boxes_fit_lem room uids k.1,
  )

  -- the reader takes it whole, in both syntaxes, for any number of boxes up to 36
  referenced_read : (uids : List (List ℕ)) → Short uids → length uids ≤ 36 → data_set (written syntax (referenced class uids)) syntax ≡ Ok (length (written syntax (referenced class uids)))
  unfolding the_forms
  referenced_read uids k n = data_set_back syntax (referenced class uids) (
    (omega arith, refl, below_limit syntax SQ (length (written_items syntax (boxes class uids))) (omega (arith, boxes_length uids k))),
    refl,
    omega arith,
    boxes_fit_lem 3 uids k,
    tt,
  )

  -- and it fits the answer's buffer
  referenced_short : (uids : List (List ℕ)) → Short uids → length uids ≤ 36 → length (written syntax (referenced class uids)) ≤ 8192
  unfolding written
  referenced_short uids k n =
      omega (arith, sequence_length syntax 0x2010_0510 no_elements (boxes class uids), boxes_length uids k, (size_between syntax SQ).1)
