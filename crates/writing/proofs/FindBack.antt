-- What was written is found where it was written: the values and sequences of a list, and the items of a sequence.
-- Assumes nothing.
use Prim.Native.Nat.{ℕ, ◌+◌, ◌-◌, ◌≤◌}
use mathlib.Core.Path.{◌≡◌, refl, sym, ap, ◌∙◌, subst}
use mathlib.Core.Bool.{Bool, true, false}
use mathlib.Core.List.{List, [], ◌++◌}
use native.Mathlib.Omega.{arith}
use lib.Dec.{eqb}
use lib.ListN.{length}
use borrow.Author.Tests.{eqb-true, eqb-false}
use Rattle.std.specs.Prelude.{Ok}
use Rattle.choice.specs.Pick.{pick}
use Rattle.octets.specs.Octets.{part}
use Rattle.octets.proofs.Laid.{Stands}
use Rattle.headers.specs.declared.Syntax.{Syntax}
use Rattle.headers.specs.declared.Part.{Part}
use Rattle.headers.specs.declared.Inside.{Inside}
use Rattle.headers.specs.declared.Head.{Head}
use Rattle.tags.specs.Table.{SQ}
use Rattle.headers.specs.Header.{tag_at, head_at}
use Rattle.elements.specs.declared.Found.{Found}
use Rattle.elements.specs.declared.Found.TheVariants.{Value, Sequence}
use Rattle.elements.specs.Reader.{item_end, element_at, scope_of}
use Rattle.elements.specs.Find.{elements_from, found, among, find_at}
use Rattle.elements.proofs.Laws.{find_done, find_here, find_more}
use Rattle.writing.specs.Tree.{Elements, no_elements, value, sequence, Items, no_items}
use Rattle.writing.specs.Bytes.{padded, header_size, headed, element, written, written_items}
use Rattle.writing.specs.Fit.{HeaderFits, Fit, FitItems}
use Rattle.writing.specs.Place.{span, place_in, value_under, items_under}
use Rattle.writing.proofs.Sizes.{size_between, padded_even}
use Rattle.writing.proofs.HeaderBack.{header_back, value_head, sequence_head}
use Rattle.writing.proofs.ListBack.{between, mark, items_even, not_yet, ended, header_stands, held_stands, more_stands, stop_after, value_past, sequence_past, items_back}

-- what the reader finds from an element on: that element, or what it finds behind it
step : (s : List ℕ) (syntax : Syntax) (room from stop at floor t vr tag : ℕ) (held more : List ℕ) (d : Head) → HeaderFits syntax floor t vr (length held)
    → Stands s at (headed syntax t vr held ++ more) → at + header_size syntax vr + length held ≤ stop
    → head_at s syntax stop at floor ≡ d
    → element_at s syntax room stop at floor ≡ Ok (at + header_size syntax vr + length held)
    → among s syntax stop tag (elements_from s (scope_of syntax room (between from stop)) (mark at floor))
    ≡ pick (eqb t tag) (found d) (among s syntax stop tag (elements_from s (scope_of syntax room (between from stop)) (mark (at + header_size syntax vr + length held) (t + 1))))
step s syntax room from stop at floor t vr tag held more d f e r h p = by (eqb t tag) refl
  where
    k : 8 ≤ header_size syntax vr
    k = (size_between syntax vr).0

    tag_is : tag_at s at ≡ t
    tag_is = (header_back s syntax at t vr (length held) f.1 f.2 (header_stands s syntax at t vr held more e)).tag_is

    by : (b : Bool) → eqb t tag ≡ b
        → among s syntax stop tag (elements_from s (scope_of syntax room (between from stop)) (mark at floor))
        ≡ pick b (found d) (among s syntax stop tag (elements_from s (scope_of syntax room (between from stop)) (mark (at + header_size syntax vr + length held) (t + 1))))
    by true c =
        find_here s (scope_of syntax room (between from stop)) at (omega arith) floor tag (not_yet s item_end from stop at (omega (arith, k))) p (tag_is ∙ eqb-true t tag c) ∙ rw h
    by false c =
        find_more s (scope_of syntax room (between from stop)) at (omega arith) floor tag (not_yet s item_end from stop at (omega (arith, k))) p (λ z. eqb-false t tag c (sym tag_is ∙ z)) ∙ rw tag_is

-- the rest of a list, from a place on
find_from_lem : (elements : Elements) (s : List ℕ) (syntax : Syntax) (room from stop at floor tag : ℕ) → Fit syntax room floor elements → stop ≡ at + length (written syntax elements) → Stands s at (written syntax elements)
    → among s syntax stop tag (elements_from s (scope_of syntax room (between from stop)) (mark at floor)) ≡ place_in syntax at tag elements
unfolding written element place_in
find_from_lem no_elements s syntax room from stop at floor tag f n e =
    let z : stop ≡ at = omega arith in
    rw z (find_done s (scope_of syntax room (between from at)) at (omega arith) floor tag (ended s item_end from at))
find_from_lem (value t vr bytes more) s syntax room from stop at floor tag f n e =
    let held = padded vr bytes in
    let rest = written syntax more in
    let k = stop_after syntax stop at t vr held rest n in
    step s syntax room from stop at floor t vr tag held rest _ f.0 e (omega arith)
    (value_head s syntax stop at floor t vr (length held) f.0 (padded_even vr bytes) (omega arith) (header_stands s syntax at t vr held rest e) f.1)
    (value_past s syntax room stop at floor t vr held rest f.0 f.1 (padded_even vr bytes) e (omega arith))
    ∙ ap (λ (d : Found). pick (eqb t tag) (Value (record { from = at + header_size syntax vr; stop = at + header_size syntax vr + length held })) d)
    (find_from_lem more s syntax room from stop (at + header_size syntax vr + length held) (t + 1) tag f.2 k (more_stands s syntax at t vr held rest e))
find_from_lem (sequence t items more) s syntax room from stop at floor tag f n e =
    let held = written_items syntax items in
    let rest = written syntax more in
    let k = stop_after syntax stop at t SQ held rest n in
    step s syntax room from stop at floor t SQ tag held rest _ f.0 e (omega arith)
    (sequence_head s syntax stop at floor t (length held) f.0 (items_even syntax items) (omega arith) (header_stands s syntax at t SQ held rest e) f.1)
    (sequence_past s syntax room stop at floor t held rest f.0 f.1 f.2 (items_even syntax items) e (omega arith)
    (items_back items s syntax (room - 1) (at + header_size syntax SQ) (at + header_size syntax SQ + length held) (at + header_size syntax SQ) f.3 refl (held_stands s syntax at t SQ held rest e)))
    ∙ ap (λ (d : Found). pick (eqb t tag) (Sequence (span (at + header_size syntax SQ) (length held))) d)
    (find_from_lem more s syntax room from stop (at + header_size syntax SQ + length held) (t + 1) tag f.4 k (more_stands s syntax at t SQ held rest e))

-- What was written under a tag the reader finds where it was written, and nothing under another.
pub find_back : (s : List ℕ) (syntax : Syntax) (room at tag : ℕ) (elements : Elements) → Fit syntax room 0 elements → Stands s at (written syntax elements)
    → find_at s (scope_of syntax room (span at (length (written syntax elements)))) tag ≡ place_in syntax at tag elements
unfolding find_at
find_back s syntax room at tag elements f e = find_from_lem elements s syntax room at (at + length (written syntax elements)) at 0 tag f refl e

-- What stands there is what was meant.

same_part : {x p : Part} → Value x ≡ Value p → x ≡ p
same_part e = cc

same_inside : {x i : Inside} → Sequence x ≡ Sequence i → x ≡ i
same_inside e = cc

value_or : (b : Bool) (s : List ℕ) (x p : Part) (rest : Found) (held others : List ℕ) → part s x.from x.stop ≡ held → (rest ≡ Value p → part s p.from p.stop ≡ others)
    → pick b (Value x) rest ≡ Value p → part s p.from p.stop ≡ pick b held others
value_or true s x p rest held others h on e = rw (same_part e) at h
value_or false s x p rest held others h on e = on e

no_value : (b : Bool) (s : List ℕ) (x : Inside) (p : Part) (rest : Found) (others : List ℕ) → (rest ≡ Value p → part s p.from p.stop ≡ others)
    → pick b (Sequence x) rest ≡ Value p → part s p.from p.stop ≡ pick b [] others
no_value true s x p rest others on e = let z : ◌≡◌ {A = ℕ} 0 1 = cc in absurd (omega arith)
no_value false s x p rest others on e = on e

-- Where a value is found, it is the one that was written, padded.
pub value_meant : (elements : Elements) (s : List ℕ) (syntax : Syntax) (at tag : ℕ) (p : Part) → Stands s at (written syntax elements)
    → place_in syntax at tag elements ≡ Value p → part s p.from p.stop ≡ value_under tag elements
unfolding written element place_in value_under
value_meant no_elements s syntax at tag p e h = let z : ◌≡◌ {A = ℕ} 0 1 = cc in absurd (omega arith)
value_meant (value t vr bytes more) s syntax at tag p e h =
    let held = padded vr bytes in
    let rest = written syntax more in
    value_or (eqb t tag) s (record { from = at + header_size syntax vr; stop = at + header_size syntax vr + length held }) p
    (place_in syntax (at + header_size syntax vr + length held) tag more) held (value_under tag more)
    (held_stands s syntax at t vr held rest e)
    (value_meant more s syntax (at + header_size syntax vr + length held) tag p (more_stands s syntax at t vr held rest e))
    h
value_meant (sequence t items more) s syntax at tag p e h =
    let held = written_items syntax items in
    let rest = written syntax more in
    no_value (eqb t tag) s (span (at + header_size syntax SQ) (length held)) p (place_in syntax (at + header_size syntax SQ + length held) tag more) (value_under tag more)
    (value_meant more s syntax (at + header_size syntax SQ + length held) tag p (more_stands s syntax at t SQ held rest e))
    h

-- Where items stand that fit to be written, with their length.
pub record ItemsStand (s : List ℕ) (syntax : Syntax) (room : ℕ) (inside : Inside) (items : Items) : Type 0 where
  pub fit : FitItems syntax room items
  pub stands : Stands s inside.from (written_items syntax items)
  pub whole : inside ≡ span inside.from (length (written_items syntax items))

items_or : (b : Bool) (s : List ℕ) (syntax : Syntax) (room : ℕ) (x i : Inside) (rest : Found) (items others : Items) → ItemsStand s syntax room x items → (rest ≡ Sequence i → ItemsStand s syntax room i others)
    → pick b (Sequence x) rest ≡ Sequence i → ItemsStand s syntax room i (pick b items others)
items_or true s syntax room x i rest items others h on e = subst (λ (y : Inside). ItemsStand s syntax room y items) (same_inside e) h
items_or false s syntax room x i rest items others h on e = on e

no_items_lem : (b : Bool) (s : List ℕ) (syntax : Syntax) (room : ℕ) (x : Part) (i : Inside) (rest : Found) (others : Items) → (rest ≡ Sequence i → ItemsStand s syntax room i others)
    → pick b (Value x) rest ≡ Sequence i → ItemsStand s syntax room i (pick b no_items others)
no_items_lem true s syntax room x i rest others on e = let z : ◌≡◌ {A = ℕ} 0 1 = cc in absurd (omega arith)
no_items_lem false s syntax room x i rest others on e = on e

-- Where a sequence is found, its items are those that were written.
pub items_meant : (elements : Elements) (s : List ℕ) (syntax : Syntax) (room at floor tag : ℕ) (i : Inside) → Fit syntax room floor elements → Stands s at (written syntax elements)
    → place_in syntax at tag elements ≡ Sequence i → ItemsStand s syntax (room - 1) i (items_under tag elements)
unfolding written element place_in items_under
items_meant no_elements s syntax room at floor tag i f e h = let z : ◌≡◌ {A = ℕ} 0 1 = cc in absurd (omega arith)
items_meant (value t vr bytes more) s syntax room at floor tag i f e h =
    let held = padded vr bytes in
    let rest = written syntax more in
    no_items_lem (eqb t tag) s syntax (room - 1) (record { from = at + header_size syntax vr; stop = at + header_size syntax vr + length held }) i
    (place_in syntax (at + header_size syntax vr + length held) tag more) (items_under tag more)
    (items_meant more s syntax room (at + header_size syntax vr + length held) (t + 1) tag i f.2 (more_stands s syntax at t vr held rest e))
    h
items_meant (sequence t items more) s syntax room at floor tag i f e h =
    let held = written_items syntax items in
    let rest = written syntax more in
    items_or (eqb t tag) s syntax (room - 1) (span (at + header_size syntax SQ) (length held)) i
    (place_in syntax (at + header_size syntax SQ + length held) tag more) items (items_under tag more)
    (record { fit = f.3; stands = held_stands s syntax at t SQ held rest e; whole = refl })
    (items_meant more s syntax room (at + header_size syntax SQ + length held) (t + 1) tag i f.4 (more_stands s syntax at t SQ held rest e))
    h
