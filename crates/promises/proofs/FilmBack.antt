-- The data set of a created film is read back: one item a box, and the i-th names the i-th of the UIDs that were made for its boxes; it fits its buffer.
-- Assumes nothing.
use Prim.Native.Nat.{ℕ, zero, suc, ◌+◌, ◌<◌, ◌≤◌}
use mathlib.Core.Path.{◌≡◌, refl, sym, ap, ◌∙◌, subst}
use mathlib.Core.Bool.{true, false}
use mathlib.Core.List.{List, [], ◌∷◌}
use native.Mathlib.Omega.{arith}
use lib.ListN.{length, get_or}
use borrow.Author.Tests.{ltb-false}
use Rattle.std.specs.Prelude.{Ok}
use Rattle.octets.proofs.Laid.{Stands}
use Rattle.uids.specs.Uids.{digits, component, components, is_uid, unpadded, made}
use Rattle.uids.proofs.Made.{made_uid}
use Rattle.headers.specs.declared.Syntax.{Syntax}
use Rattle.headers.specs.declared.Inside.{Inside}
use Rattle.headers.specs.declared.Head.TheVariants.{Nest}
use Rattle.tags.specs.Table.{SQ, UI}
use Rattle.headers.specs.Header.{item_head_at}
use Rattle.elements.specs.declared.Found.TheVariants.{Sequence}
use Rattle.elements.specs.Reader.{sequence_end, data_set, scope_of}
use Rattle.elements.specs.Find.{items_of, find_at}
use Rattle.elements.proofs.Laws.{items_of_done, items_of_more}
use Rattle.writing.specs.Tree.{Elements, Items, no_items, item}
use Rattle.writing.specs.Bytes.{padded, header_size, written, written_items}
use Rattle.writing.specs.Fit.{Fit, FitItems}
use Rattle.writing.specs.Place.{span, place_in, items_under, told}
use Rattle.writing.proofs.HeaderBack.{item_head_back}
use Rattle.writing.proofs.ListBack.{between, written_even, not_yet, ended, list_back, item_header_stands, list_stands, other_items_stand, stop_after_item, item_past_back, data_set_back}
use Rattle.writing.proofs.FindBack.{ItemsStand}
use Rattle.writing.proofs.RoundTrip.{ReadBack, round_trip}
use Rattle.rules.specs.declared.Film.{Film}
use Rattle.rules.specs.declared.Numbers.{Numbers}
use Rattle.rules.specs.declared.Core.{Core}
use Rattle.rules.specs.Bounds.{most_boxes, data_room, none_left}
use Rattle.rules.specs.Text.{chars, box_class}
use Rattle.rules.specs.Lists.{from}
use Rattle.rules.specs.Records.{root_of, box_count, box_uids}
use Rattle.rules.specs.Commands.{bytes_of}
use Rattle.rules.specs.Attributes.{Listing, listing_of, look, value_of, items_in, only_item, film_with}
use Rattle.rules.specs.Effects.{too_few_serials, new_film, film_serials}
use Rattle.rules.specs.Sound.{numbers_sound}
use Rattle.rules.specs.Responses.{box_items, film_tree}
use Rattle.promises.proofs.ListLaws.{each_all}
use Rattle.promises.proofs.Facts.{numbers_facts, root_fits}
use Rattle.promises.proofs.Layouts.{layout_few}
use Rattle.promises.proofs.Instances.{box_uids_length, box_uid_at}
use Rattle.promises.proofs.Held.{here, later, Holds, holds, whole_span, whole_back}
use Rattle.promises.proofs.ReplySizes.{AllUids, box_tree, film_fit, film_fits}
use Rattle.promises.proofs.ReadBack.{unpadded_ui}

-- an item stands at a place of a sequence that ends at `stop`: its header tells its list, and that is read back
pub record ItemMeans (s : List ℕ) (syntax : Syntax) (room stop at : ℕ) (list : Elements) : Type 0 where
  pub head : item_head_at s stop at ≡ Nest (span (at + 8) (length (written syntax list)))
  pub back : ReadBack s syntax room (at + 8) list

-- the items that stand at these places are as many, and in this order
abbrev pub ItemsMean : List ℕ → Syntax → ℕ → ℕ → List ℕ → Items → Type 0
ItemsMean s syntax room stop [] no_items = Unit {0}
ItemsMean s syntax room stop [] (item list more) = ⊥
ItemsMean s syntax room stop (at ∷ places) no_items = ⊥
ItemsMean s syntax room stop (at ∷ places) (item list more) = ItemMeans s syntax room stop at list × ItemsMean s syntax room stop places more

-- whatever items were written, the reader passes each of them at its place
pub items_mean : (items : Items) (s : List ℕ) (syntax : Syntax) (room from stop at : ℕ) → FitItems syntax room items → stop ≡ at + length (written_items syntax items) → Stands s at (written_items syntax items)
    → ItemsMean s syntax room stop (items_of s (scope_of syntax room (between from stop)) at) items
unfolding written
items_mean no_items s syntax room from stop at f n e =
    let z : stop ≡ at = omega arith in
    rw (z, items_of_done s (scope_of syntax room (between from at)) at (omega arith) (ended s sequence_end from at)) tt
items_mean (item list more) s syntax room from stop at f n e =
    let held = written syntax list in
    let rest = written_items syntax more in
    let k = stop_after_item stop at held rest n in
    rw
    (items_of_more s (scope_of syntax room (between from stop)) at (omega arith) (not_yet s sequence_end from stop at (omega arith))
    (item_past_back s syntax room stop at held rest f.0 (written_even syntax list) e (omega arith)
    (list_back list s syntax room (at + 8) (at + 8 + length held) (at + 8) 0 f.1 refl (list_stands s at held rest e)))) (
      record {
        head = item_head_back s stop at (length held) f.0 (written_even syntax list) (omega arith) (item_header_stands s at held rest e);
        back = round_trip s syntax room (at + 8) list f.1 (list_stands s at held rest e);
      },
      items_mean more s syntax room from stop (at + 8 + length held) f.2 k (other_items_stand s at held rest e),
    )

-- An image box: its item's list has the class of image boxes, and its UID.

-- the list of an item of a sequence in a data set
abbrev pub item_listing : List ℕ → Syntax → Inside → Listing
item_listing s syntax inside = only_item (listing_of s syntax) inside

pub record BoxMeans (s : List ℕ) (syntax : Syntax) (stop at : ℕ) (uid : List ℕ) : Type 0 where
  pub list : Inside
  pub head : item_head_at s stop at ≡ Nest list
  pub class : unpadded (value_of (item_listing s syntax list) 0x0008_1150) ≡ box_class
  pub bytes : value_of (item_listing s syntax list) 0x0008_1155 ≡ padded UI uid
  pub instance : unpadded (value_of (item_listing s syntax list) 0x0008_1155) ≡ uid

class_uid : is_uid box_class ≡ true
unfolding chars digits component components is_uid
class_uid = refl

value_found : (s : List ℕ) (syntax : Syntax) (inside : Inside) (tag : ℕ) (bytes : List ℕ) → Holds s syntax 3 inside tag bytes → value_of (item_listing s syntax inside) tag ≡ bytes
unfolding bytes_of
value_found s syntax inside tag bytes h = rw h.found h.means

box_means : (s : List ℕ) (syntax : Syntax) (stop at : ℕ) (uid : List ℕ) → is_uid uid ≡ true → ItemMeans s syntax 3 stop at (box_tree uid) → BoxMeans s syntax stop at uid
box_means s syntax stop at uid i m =
    let inside : Inside = span (at + 8) (length (written syntax (box_tree uid))) in
    let c = value_found s syntax inside 0x0008_1150 (padded UI box_class) (holds s syntax 3 (at + 8) (box_tree uid) m.back 0x0008_1150 (padded UI box_class) (here refl)) in
    let u = value_found s syntax inside 0x0008_1155 (padded UI uid) (holds s syntax 3 (at + 8) (box_tree uid) m.back 0x0008_1155 (padded UI uid) (later refl (here refl))) in
    record {
      list = inside;
      head = m.head;
      class = ap unpadded c ∙ unpadded_ui box_class class_uid;
      bytes = u;
      instance = ap unpadded u ∙ unpadded_ui uid i;
    }

-- as many boxes as UIDs, in their order
abbrev pub BoxesMean : List ℕ → Syntax → ℕ → List ℕ → List (List ℕ) → Type 0
BoxesMean s syntax stop [] [] = Unit {0}
BoxesMean s syntax stop [] (uid ∷ uids) = ⊥
BoxesMean s syntax stop (at ∷ places) [] = ⊥
BoxesMean s syntax stop (at ∷ places) (uid ∷ uids) = BoxMeans s syntax stop at uid × BoxesMean s syntax stop places uids

boxes_mean : (s : List ℕ) (syntax : Syntax) (stop : ℕ) (places : List ℕ) (uids : List (List ℕ)) → AllUids uids → ItemsMean s syntax 3 stop places (box_items uids) → BoxesMean s syntax stop places uids
unfolding box_items
boxes_mean s syntax stop [] [] k m = tt
boxes_mean s syntax stop [] (uid ∷ uids) k m = m
boxes_mean s syntax stop (at ∷ places) [] k m = m
boxes_mean s syntax stop (at ∷ places) (uid ∷ uids) k m = (box_means s syntax stop at uid k.0 m.0, boxes_mean s syntax stop places uids k.1 m.1)

-- the i-th item is the i-th box
pub box_at : (s : List ℕ) (syntax : Syntax) (stop : ℕ) (places : List ℕ) (uids : List (List ℕ)) (i : ℕ) → BoxesMean s syntax stop places uids → i < length uids
    → BoxMeans s syntax stop (get_or places i 0) (get_or uids i [])
box_at s syntax stop [] [] i m h = absurd (omega arith)
box_at s syntax stop [] (uid ∷ uids) i m h = absurd m
box_at s syntax stop (at ∷ places) [] i m h = absurd m
box_at s syntax stop (at ∷ places) (uid ∷ uids) zero m h = m.0
box_at s syntax stop (at ∷ places) (uid ∷ uids) (suc i) m h = box_at s syntax stop places uids i m.1 (omega arith)

-- What the created film's data set says, read back from its bytes.
pub record FilmMeans (b : List ℕ) (syntax : Syntax) (uids : List (List ℕ)) : Type 0 where
  -- the reader takes it whole
  pub read : data_set b syntax ≡ Ok (length b)
  -- it finds the sequence
  pub inside : Inside
  pub found : look (listing_of b syntax) 0x2010_0510 ≡ Sequence inside
  -- it counts its items, and tells the list of an only one
  pub counts : items_in (listing_of b syntax) 0x2010_0510 ≡ told syntax inside.from (box_items uids)
  -- each item has a place, and there the class and the UID of its image box
  pub boxes : BoxesMean b syntax inside.stop (items_of b (scope_of syntax 3 inside) inside.from) uids

film_place_lem : (syntax : Syntax) (uids : List (List ℕ)) → place_in syntax 0 0x2010_0510 (film_tree uids) ≡ Sequence (span (0 + header_size syntax SQ) (length (written_items syntax (box_items uids))))
unfolding place_in film_tree
film_place_lem syntax uids = refl

film_items : (uids : List (List ℕ)) → items_under 0x2010_0510 (film_tree uids) ≡ box_items uids
unfolding items_under film_tree
film_items uids = refl

module _ (syntax : Syntax) (uids : List (List ℕ)) (k : AllUids uids) (n : length uids ≤ most_boxes) where
  -- For at most 36 UIDs, in both syntaxes.
  pub film_means : FilmMeans (written syntax (film_tree uids)) syntax uids
  film_means =
      let t : Elements = film_tree uids in
      let b : List ℕ = written syntax t in
      let f : Fit syntax 4 0 t = film_fit syntax uids k n in
      let r = whole_back syntax t f in
      let start : ℕ = 0 + header_size syntax SQ in
      let i : Inside = span start (length (written_items syntax (box_items uids))) in
      let p = film_place_lem syntax uids in
      let m : ItemsStand b syntax 3 i (box_items uids) = subst (λ (x : Items). ItemsStand b syntax 3 i x) (film_items uids) (r.sequences 0x2010_0510 i p) in
      let e : look (listing_of b syntax) 0x2010_0510 ≡ Sequence i = ap (λ (w : Inside). find_at b (scope_of syntax 4 w) 0x2010_0510) (sym (whole_span b)) ∙ r.found 0x2010_0510 ∙ p in
      record {
        read = data_set_back syntax t f;
        inside = i;
        found = e;
        counts = rw e (r.items 0x2010_0510 i p ∙ ap (told syntax start) (film_items uids));
        boxes = boxes_mean b syntax i.stop (items_of b (scope_of syntax 3 i) start) uids k (items_mean (box_items uids) b syntax 3 start i.stop start m.fit refl m.stands);
      }

-- The UIDs that were made for its boxes.

abbrev pub film_bytes : Syntax → Numbers → Film → List ℕ
film_bytes syntax n f = written syntax (film_tree (box_uids n f))

-- numbers that keep their rules, and serials below the last for at most 36 boxes
module _ (n : Numbers) (sound : numbers_sound n ≡ true) (f : Film) (few : box_count f.layout ≤ most_boxes) (left : f.first.0 + box_count f.layout ≤ none_left) where
  uids_made : AllUids (box_uids n f)
  uids_made =
      each_all (λ (uid : List ℕ). is_uid uid ≡ true) (box_uids n f) [] (λ i h.
      let c = box_uids_length n f in
      rw (box_uid_at n f i (omega arith)) (made_uid (root_of n) (f.first.0 + i) (numbers_facts n sound).root (root_fits n sound) (omega arith)))

  uids_few : length (box_uids n f) ≤ most_boxes
  uids_few = omega (arith, box_uids_length n f)

  module _ (syntax : Syntax) where
    -- it fits its buffer, in both syntaxes
    pub created_fits : length (film_bytes syntax n f) ≤ data_room
    created_fits = film_fits syntax (box_uids n f) uids_made uids_few

    -- and is read back
    pub created_means : FilmMeans (film_bytes syntax n f) syntax (box_uids n f)
    created_means = film_means syntax (box_uids n f) uids_made uids_few

    -- the i-th item is that of the box with the i-th serial: its UID is the root, a dot and that serial
    pub created_box : (i : ℕ) → i < box_count f.layout
        → BoxMeans (film_bytes syntax n f) syntax created_means.inside.stop
        (get_or (items_of (film_bytes syntax n f) (scope_of syntax 3 created_means.inside) created_means.inside.from) i 0)
        (made (root_of n) (f.first.0 + i))
    created_box i k =
        let places = items_of (film_bytes syntax n f) (scope_of syntax 3 created_means.inside) created_means.inside.from in
        subst (λ (uid : List ℕ). BoxMeans (film_bytes syntax n f) syntax created_means.inside.stop (get_or places i 0) uid) (box_uid_at n f i k)
        (box_at (film_bytes syntax n f) syntax created_means.inside.stop places (box_uids n f) i created_means.boxes (omega (arith, box_uids_length n f)))

-- A new film has at most 36 boxes, and check 9 leaves it serials enough.

module _ (k : Core) (sent : List ℕ) (l : Listing) where
  pub new_film_few : box_count (new_film k sent l).layout ≤ most_boxes
  unfolding new_film film_with
  new_film_few = layout_few l

  module _ (sound : numbers_sound k.numbers ≡ true) (enough : too_few_serials k.numbers (film_serials sent l) ≡ false) where
    pub new_film_left : (new_film k sent l).first.0 + box_count (new_film k sent l).layout ≤ none_left
    unfolding new_film film_with
    new_film_left = omega (arith, ltb-false none_left (k.numbers.serial + film_serials sent l) enough)

    module _ (syntax : Syntax) where
      -- the data set of a new film fits its buffer
      pub new_film_fits : length (film_bytes syntax k.numbers (new_film k sent l)) ≤ data_room
      new_film_fits = created_fits k.numbers sound (new_film k sent l) new_film_few new_film_left syntax

      -- and is read back
      pub new_film_means : FilmMeans (film_bytes syntax k.numbers (new_film k sent l)) syntax (box_uids k.numbers (new_film k sent l))
      new_film_means = created_means k.numbers sound (new_film k sent l) new_film_few new_film_left syntax
