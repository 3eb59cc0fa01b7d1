-- The reader takes what was written, to its end: the elements of a list and the items of a sequence, in both syntaxes.
-- Assumes nothing.
use Prim.Native.Nat.{ℕ, ◌+◌, ◌-◌, ◌<◌, ◌≤◌, ◌%◌}
use mathlib.Core.Path.{◌≡◌, refl, ◌∙◌}
use mathlib.Core.Bool.{false}
use mathlib.Core.List.{List, ◌++◌}
use native.Mathlib.Nat.{add_assoc}
use native.Mathlib.Omega.{arith}
use lib.ListN.{length, length-append}
use lib.Seq.{take-length}
use lib.Dec.{eqb}
use Rattle.std.specs.Prelude.{Some, None, Ok}
use Rattle.choice.specs.Pick.{both}
use Rattle.choice.proofs.Picks.{pick_cases}
use borrow.Author.Tests.{lt-ltb, le-ltb}
use Rattle.octets.proofs.Laid.{Stands, stands_first, stands_second}
use Rattle.headers.specs.declared.Syntax.{Syntax}
use Rattle.headers.specs.declared.Inside.{Inside}
use Rattle.tags.specs.Table.{SQ, form_of, named_vr}
use Rattle.headers.specs.Header.{is_explicit, close_at}
use Rattle.elements.specs.Reader.{item_end, sequence_end, Mark, list_from, items_from, element_at, list_at, item_at, data_set, scope_of}
use Rattle.elements.proofs.Laws.{element_value, element_nest, item_nest, items_done, items_more, list_done, list_more}
use Rattle.writing.specs.Tree.{Elements, no_elements, value, sequence, Items, no_items, item}
use Rattle.writing.specs.Bytes.{padded, header_size, header, item_header, headed, element, written, written_items}
use Rattle.writing.specs.Fit.{HeaderFits, Fit, FitItems}
use Rattle.writing.specs.Place.{span}
use Rattle.writing.proofs.Sizes.{header_length, size_between, headed_length, padded_even, item_length}
use Rattle.writing.proofs.HeaderBack.{header_back, value_head, sequence_head, item_head_back}

-- Lengths are even.

even : (a b : List ℕ) → length a % 2 ≡ 0 → length b % 2 ≡ 0 → length (a ++ b) % 2 ≡ 0
even a b h k = rw (length-append a b) (omega arith)

size_even : (syntax : Syntax) (vr : ℕ) → header_size syntax vr % 2 ≡ 0
unfolding header_size
size_even syntax vr = pick_cases (λ (n : ℕ). n % 2 ≡ 0) (both (is_explicit syntax) (eqb (form_of vr) 12)) 12 8 (λ _. refl) (λ _. refl)

headed_even : (syntax : Syntax) (tag vr : ℕ) (held : List ℕ) → length held % 2 ≡ 0 → length (headed syntax tag vr held) % 2 ≡ 0
headed_even syntax tag vr held h = omega (arith, headed_length syntax tag vr held, size_even syntax vr)

mutual
  unfolding written element

  pub written_even : (syntax : Syntax) (elements : Elements) → length (written syntax elements) % 2 ≡ 0
  written_even syntax no_elements = refl
  written_even syntax (value tag vr bytes more) =
      even (headed syntax tag vr (padded vr bytes)) (written syntax more) (headed_even syntax tag vr (padded vr bytes) (padded_even vr bytes)) (written_even syntax more)
  written_even syntax (sequence tag items more) =
      even (headed syntax tag SQ (written_items syntax items)) (written syntax more) (headed_even syntax tag SQ (written_items syntax items) (items_even syntax items)) (written_even syntax more)

  pub items_even : (syntax : Syntax) (items : Items) → length (written_items syntax items) % 2 ≡ 0
  items_even syntax no_items = refl
  items_even syntax (item list more) =
      even (item_header (length (written syntax list)) ++ written syntax list) (written_items syntax more)
      (even (item_header (length (written syntax list))) (written syntax list) (omega (arith, item_length (length (written syntax list)))) (written_even syntax list))
      (items_even syntax more)

-- a list or a sequence of defined length
abbrev pub between : ℕ → ℕ → Inside
between from stop = record { from = from; stop = stop; loose = false }

-- where the walk of a list stands
abbrev pub mark : ℕ → ℕ → Mark
mark at floor = record { at = at; floor = floor }

-- Where a list of defined length ends.

pub not_yet : (s : List ℕ) (mark from stop at : ℕ) → at < stop → close_at s mark (between from stop) at ≡ None
unfolding close_at
not_yet s mark from stop at h = rw (lt-ltb at stop h)

pub ended : (s : List ℕ) (mark from at : ℕ) → close_at s mark (between from at) at ≡ Some at
unfolding close_at
ended s mark from at = rw (le-ltb at at (omega arith))

-- One element: what is held stands behind the header, and the rest behind that.

module _ (s : List ℕ) (syntax : Syntax) (at tag vr : ℕ) (held more : List ℕ) (e : Stands s at (headed syntax tag vr held ++ more)) where
  pub header_stands : Stands s at (header syntax tag vr (length held))
  header_stands = stands_first s at (header syntax tag vr (length held)) held (stands_first s at (headed syntax tag vr held) more e)

  pub held_stands : Stands s (at + header_size syntax vr) held
  held_stands = rw (header_length syntax tag vr (length held)) at (stands_second s at (header syntax tag vr (length held)) held (stands_first s at (headed syntax tag vr held) more e))

  pub more_stands : Stands s (at + header_size syntax vr + length held) more
  more_stands = rw (headed_length syntax tag vr held, ← add_assoc at (header_size syntax vr) (length held)) at (stands_second s at (headed syntax tag vr held) more e)

-- where an element ends, and with it the list around it
pub stop_after : (syntax : Syntax) (stop at tag vr : ℕ) (held more : List ℕ) → stop ≡ at + length (headed syntax tag vr held ++ more) → stop ≡ at + header_size syntax vr + length held + length more
stop_after syntax stop at tag vr held more e = e ∙ rw (length-append (headed syntax tag vr held) more, headed_length syntax tag vr held) (omega arith)

module _ (s : List ℕ) (syntax : Syntax) (room stop at floor tag : ℕ) where
  -- a value is passed over
  pub value_past : (vr : ℕ) (held more : List ℕ) → HeaderFits syntax floor tag vr (length held) → eqb vr SQ ≡ false → length held % 2 ≡ 0
      → Stands s at (headed syntax tag vr held ++ more) → at + header_size syntax vr + length held ≤ stop
      → element_at s syntax room stop at floor ≡ Ok (at + header_size syntax vr + length held)
  value_past vr held more f q v e r =
      element_value s syntax room stop at floor (value_head s syntax stop at floor tag vr (length held) f v r (header_stands s syntax at tag vr held more e) q)

  -- a sequence is passed over, where its items are
  pub sequence_past : (held more : List ℕ) → HeaderFits syntax floor tag SQ (length held) → named_vr tag ≡ SQ → 0 < room → length held % 2 ≡ 0
      → Stands s at (headed syntax tag SQ held ++ more) → at + header_size syntax SQ + length held ≤ stop
      → items_from (element_at s syntax (room - 1)) s (room - 1) (span (at + header_size syntax SQ) (length held)) (at + header_size syntax SQ) ≡ Ok (at + header_size syntax SQ + length held)
      → element_at s syntax room stop at floor ≡ Ok (at + header_size syntax SQ + length held)
  sequence_past held more f q p v e r i =
      element_nest s syntax room stop at floor (λ z. omega arith) (sequence_head s syntax stop at floor tag (length held) f v r (header_stands s syntax at tag SQ held more e) q) ∙ i

-- The walks.

-- an element was passed over: the list goes on behind it, with a higher tag
on : (s : List ℕ) (syntax : Syntax) (room from stop at floor tag vr : ℕ) (held more : List ℕ) → HeaderFits syntax floor tag vr (length held)
    → Stands s at (headed syntax tag vr held ++ more) → at + header_size syntax vr + length held ≤ stop
    → element_at s syntax room stop at floor ≡ Ok (at + header_size syntax vr + length held)
    → list_from (element_at s syntax room) s (between from stop) (mark at floor)
    ≡ list_from (element_at s syntax room) s (between from stop) (mark (at + header_size syntax vr + length held) (tag + 1))
on s syntax room from stop at floor tag vr held more f e r p =
    let k = size_between syntax vr in
    list_more s syntax room (between from stop) at (omega arith) floor (not_yet s item_end from stop at (omega arith)) p
    ∙ rw (header_back s syntax at tag vr (length held) f.1 f.2 (header_stands s syntax at tag vr held more e)).tag_is

-- One item: its list stands behind the header, and the other items behind that.

module _ (s : List ℕ) (at : ℕ) (list more : List ℕ) (e : Stands s at ((item_header (length list) ++ list) ++ more)) where
  pub item_header_stands : Stands s at (item_header (length list))
  item_header_stands = stands_first s at (item_header (length list)) list (stands_first s at (item_header (length list) ++ list) more e)

  pub list_stands : Stands s (at + 8) list
  list_stands = rw (item_length (length list)) at (stands_second s at (item_header (length list)) list (stands_first s at (item_header (length list) ++ list) more e))

  pub other_items_stand : Stands s (at + 8 + length list) more
  other_items_stand =
      rw (length-append (item_header (length list)) list, item_length (length list), ← add_assoc at 8 (length list)) at (stands_second s at (item_header (length list) ++ list) more e)

pub stop_after_item : (stop at : ℕ) (list more : List ℕ) → stop ≡ at + length ((item_header (length list) ++ list) ++ more) → stop ≡ at + 8 + length list + length more
stop_after_item stop at list more e = e ∙ rw (length-append (item_header (length list) ++ list) more, length-append (item_header (length list)) list, item_length (length list)) (omega arith)

-- an item is passed over, where its list is
pub item_past_back : (s : List ℕ) (syntax : Syntax) (room stop at : ℕ) (list more : List ℕ) → length list < 0xFFFF_FFFF → length list % 2 ≡ 0
    → Stands s at ((item_header (length list) ++ list) ++ more) → at + 8 + length list ≤ stop
    → list_from (element_at s syntax room) s (span (at + 8) (length list)) (mark (at + 8) 0) ≡ Ok (at + 8 + length list)
    → item_at s syntax room stop at ≡ Ok (at + 8 + length list)
unfolding list_at
item_past_back s syntax room stop at list more d v e r p =
    item_nest s syntax room stop at (item_head_back s stop at (length list) d v r (item_header_stands s at list more e)) ∙ p

mutual
  unfolding written element

  -- the rest of a list, from a place on
  pub list_back : (elements : Elements) (s : List ℕ) (syntax : Syntax) (room from stop at floor : ℕ) → Fit syntax room floor elements → stop ≡ at + length (written syntax elements) → Stands s at (written syntax elements)
      → list_from (element_at s syntax room) s (between from stop) (mark at floor) ≡ Ok stop
  list_back no_elements s syntax room from stop at floor f n e =
      let z : stop ≡ at = omega arith in
      rw z (list_done s syntax room (between from at) at (omega arith) floor (ended s item_end from at))
  list_back (value tag vr bytes more) s syntax room from stop at floor f n e =
      let held = padded vr bytes in
      let rest = written syntax more in
      let k = stop_after syntax stop at tag vr held rest n in
      on s syntax room from stop at floor tag vr held rest f.0 e (omega arith)
      (value_past s syntax room stop at floor tag vr held rest f.0 f.1 (padded_even vr bytes) e (omega arith))
      ∙ list_back more s syntax room from stop (at + header_size syntax vr + length held) (tag + 1) f.2 k (more_stands s syntax at tag vr held rest e)
  list_back (sequence tag items more) s syntax room from stop at floor f n e =
      let held = written_items syntax items in
      let rest = written syntax more in
      let k = stop_after syntax stop at tag SQ held rest n in
      on s syntax room from stop at floor tag SQ held rest f.0 e (omega arith)
      (sequence_past s syntax room stop at floor tag held rest f.0 f.1 f.2 (items_even syntax items) e (omega arith)
      (items_back items s syntax (room - 1) (at + header_size syntax SQ) (at + header_size syntax SQ + length held) (at + header_size syntax SQ) f.3 refl (held_stands s syntax at tag SQ held rest e)))
      ∙ list_back more s syntax room from stop (at + header_size syntax SQ + length held) (tag + 1) f.4 k (more_stands s syntax at tag SQ held rest e)

  -- the rest of a sequence's items
  pub items_back : (items : Items) (s : List ℕ) (syntax : Syntax) (room from stop at : ℕ) → FitItems syntax room items → stop ≡ at + length (written_items syntax items) → Stands s at (written_items syntax items)
      → items_from (element_at s syntax room) s room (between from stop) at ≡ Ok stop
  items_back no_items s syntax room from stop at f n e =
      let z : stop ≡ at = omega arith in
      rw z (items_done s syntax room (between from at) at (omega arith) (ended s sequence_end from at))
  items_back (item list more) s syntax room from stop at f n e =
      let held = written syntax list in
      let rest = written_items syntax more in
      let k = stop_after_item stop at held rest n in
      items_more s syntax room (between from stop) at (omega arith) (not_yet s sequence_end from stop at (omega arith))
      (item_past_back s syntax room stop at held rest f.0 (written_even syntax list) e (omega arith)
      (list_back list s syntax room (at + 8) (at + 8 + length held) (at + 8) 0 f.1 refl (list_stands s at held rest e)))
      ∙ items_back more s syntax room from stop (at + 8 + length held) f.2 k (other_items_stand s at held rest e)

-- What was written at a place of a larger whole, the reader takes there, to its end.
pub reads_back : (s : List ℕ) (syntax : Syntax) (room at : ℕ) (elements : Elements) → Fit syntax room 0 elements → Stands s at (written syntax elements)
    → list_at s (scope_of syntax room (span at (length (written syntax elements)))) ≡ Ok (at + length (written syntax elements))
unfolding list_at
reads_back s syntax room at elements f e = list_back elements s syntax room at (at + length (written syntax elements)) at 0 f refl e

pub stands_whole : (s : List ℕ) → Stands s 0 s
stands_whole s = let z : 0 + length s - 0 ≡ length s = omega arith in rw z (take-length s)

-- What was written is a data set, or a command set, that the reader takes whole.
pub data_set_back : (syntax : Syntax) (elements : Elements) → Fit syntax 4 0 elements → data_set (written syntax elements) syntax ≡ Ok (length (written syntax elements))
unfolding data_set list_at
data_set_back syntax elements f =
    list_back elements (written syntax elements) syntax 4 0 (length (written syntax elements)) 0 0 f (omega arith) (stands_whole (written syntax elements))
