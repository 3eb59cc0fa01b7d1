-- The items of a sequence that was written are counted as they were written, and the list of the only one is found.
-- Assumes nothing.
use Prim.Native.Nat.{ℕ, suc, ◌+◌, ◌-◌}
use mathlib.Core.Path.{◌≡◌, refl, ap, ◌∙◌}
use mathlib.Core.List.{List, [], ◌∷◌}
use native.Mathlib.Omega.{arith}
use lib.ListN.{length}
use Rattle.octets.proofs.Laid.{Stands}
use Rattle.headers.specs.declared.Syntax.{Syntax}
use Rattle.headers.specs.declared.Inside.{Inside}
use Rattle.elements.specs.declared.Found.TheVariants.{Sequence}
use Rattle.elements.specs.declared.Items.TheVariants.{Several}
use Rattle.elements.specs.Reader.{sequence_end, scope_of}
use Rattle.elements.specs.Find.{counted, items_of, items_at}
use Rattle.elements.proofs.Laws.{items_of_done, items_of_more}
use Rattle.writing.specs.Tree.{Elements, Items, no_items, item}
use Rattle.writing.specs.Bytes.{written, written_items}
use Rattle.writing.specs.Fit.{Fit, FitItems}
use Rattle.writing.specs.Place.{span, place_in, items_under, count, told}
use Rattle.writing.proofs.HeaderBack.{item_head_back}
use Rattle.writing.proofs.ListBack.{between, written_even, not_yet, ended, list_back, item_header_stands, list_stands, other_items_stand, stop_after_item, item_past_back}
use Rattle.writing.proofs.FindBack.{items_meant}

-- where each item stands
places : Syntax → ℕ → Items → List ℕ
places syntax at no_items = []
places syntax at (item list more) = at ∷ places syntax (at + 8 + length (written syntax list)) more

places_count : (syntax : Syntax) (at : ℕ) (items : Items) → length (places syntax at items) ≡ count items
unfolding places count
places_count syntax at no_items = refl
places_count syntax at (item list more) = ap suc (places_count syntax (at + 8 + length (written syntax list)) more)

items_from_lem : (items : Items) (s : List ℕ) (syntax : Syntax) (room from stop at : ℕ) → FitItems syntax room items → stop ≡ at + length (written_items syntax items) → Stands s at (written_items syntax items)
    → items_of s (scope_of syntax room (between from stop)) at ≡ places syntax at items
unfolding written places
items_from_lem no_items s syntax room from stop at f n e =
    let z : stop ≡ at = omega arith in
    rw z (items_of_done s (scope_of syntax room (between from at)) at (omega arith) (ended s sequence_end from at))
items_from_lem (item list more) s syntax room from stop at f n e =
    let held = written syntax list in
    let rest = written_items syntax more in
    let k = stop_after_item stop at held rest n in
    items_of_more s (scope_of syntax room (between from stop)) at (omega arith) (not_yet s sequence_end from stop at (omega arith))
    (item_past_back s syntax room stop at held rest f.0 (written_even syntax list) e (omega arith)
    (list_back list s syntax room (at + 8) (at + 8 + length held) (at + 8) 0 f.1 refl (list_stands s at held rest e)))
    ∙ ap (λ (l : List ℕ). at ∷ l) (items_from_lem more s syntax room from stop (at + 8 + length held) f.2 k (other_items_stand s at held rest e))

counted_back : (items : Items) (s : List ℕ) (syntax : Syntax) (room stop at : ℕ) → FitItems syntax room items → stop ≡ at + length (written_items syntax items) → Stands s at (written_items syntax items)
    → counted s stop (places syntax at items) ≡ told syntax at items
unfolding written places
counted_back no_items s syntax room stop at f n e = refl
counted_back (item list no_items) s syntax room stop at f n e =
    let held = written syntax list in
    let k = stop_after_item stop at held [] n in
    rw (item_head_back s stop at (length held) f.0 (written_even syntax list) (omega arith) (item_header_stands s at held [] e))
counted_back (item list (item next more)) s syntax room stop at f n e =
    ap (λ (n : ℕ). Several (suc (suc n))) (places_count syntax (at + 8 + length (written syntax list) + 8 + length (written syntax next)) more)

-- Of the items that were written at a place, the reader says what they are: none, where the list of the only one stands, or how many.
pub items_told : (s : List ℕ) (syntax : Syntax) (room at : ℕ) (items : Items) → FitItems syntax room items → Stands s at (written_items syntax items)
    → items_at s (scope_of syntax room (span at (length (written_items syntax items)))) ≡ told syntax at items
unfolding items_at
items_told s syntax room at items f e =
    rw (items_from_lem items s syntax room at (at + length (written_items syntax items)) at f refl e)
    (counted_back items s syntax room (at + length (written_items syntax items)) at f refl e)

-- The same where a sequence was found.
pub found_items_told : (elements : Elements) (s : List ℕ) (syntax : Syntax) (room at tag : ℕ) (i : Inside) → Fit syntax room 0 elements → Stands s at (written syntax elements)
    → place_in syntax at tag elements ≡ Sequence i → items_at s (scope_of syntax (room - 1) i) ≡ told syntax i.from (items_under tag elements)
found_items_told elements s syntax room at tag i f e h =
    let m = items_meant elements s syntax room at 0 tag i f e h in
    ap (λ (x : Inside). items_at s (scope_of syntax (room - 1) x)) m.whole ∙ items_told s syntax (room - 1) i.from (items_under tag elements) m.fit m.stands
