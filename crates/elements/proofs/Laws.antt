-- What each way through the readers gives, one law each, and that what is found lies within.
-- Assumes nothing.
use mathlib.Core.Path.{◌≡◌, refl, sym, ap, subst, ◌∙◌}
use mathlib.Core.List.{List, [], ◌∷◌}
use Prim.Native.Nat.{ℕ, zero, suc, ◌+◌, ◌-◌, ◌≤◌, ◌<◌}
use native.Mathlib.Numerals.{sub-one}
use native.Mathlib.Omega.{arith}
use lib.Dec.{eqb}
use lib.ListN.{length}
use borrow.Author.Tests.{eq-eqb, ne_eqb, ltb-false}
use Rattle.std.specs.Prelude.{Option, Some, None, Result, Ok, Err}
use Rattle.choice.proofs.Picks.{pick_cases, first_cases}
use Rattle.headers.specs.declared.Syntax.{Syntax}
use Rattle.headers.specs.declared.Part.{Part}
use Rattle.headers.specs.declared.Inside.{Inside}
use Rattle.headers.specs.declared.Scope.{Scope}
use Rattle.headers.specs.declared.Head.{Head}
use Rattle.headers.specs.declared.Head.TheVariants.{Fault, Value, Nest}
use Rattle.headers.specs.Header.{tag_at, element_rules, head_at, item_head_at, close_at}
use Rattle.headers.proofs.Within.{Fits, HeadIn, head_in, item_head_in}
use Rattle.elements.specs.declared.Stop.{Stop}
use Rattle.elements.specs.declared.Found.{Found}
use Rattle.elements.specs.declared.Found.TheVariants.{Missing}
use Rattle.elements.specs.declared.Items.TheVariants.{Empty, Several}
use Rattle.elements.specs.Walk.{Next, again, done, follow, onward, on_trail, trail}
use Rattle.elements.specs.Reader.{item_end, sequence_end, refused_at, behind, or_else, Mark, start, list_step, list_from, item_with, item_step, items_from, element_at, scope_of, element_in, list_at, item_at, data_scope}
use Rattle.elements.specs.Find.{elements_from, items_of, found, among, find_at, only, counted, items_at}
use Rattle.elements.proofs.Within.{ReadIn, AllIn, FoundIn, ItemsIn}
use Rattle.elements.proofs.Grammar.{place, ElemIn, element_in_lem, item_in, list_unroll, items_unroll, elements_unroll, items_of_unroll, elements_in, items_of_in}

abbrev mark : ℕ → ℕ → Mark
mark at floor = record { at = at; floor = floor }

-- One header.

module _ (s : List ℕ) (syntax : Syntax) (end at floor : ℕ) (h : at ≤ end) where
  pub head_nest : {inside : Inside} → head_at s syntax end at floor ≡ Nest inside → Fits (at + 8) inside.from inside.stop end
  head_nest e = subst (HeadIn (at + 8) end) e (head_in s syntax end at floor h)

  pub element_past : (room : ℕ) {q : ℕ} → element_at s syntax room end at floor ≡ Ok q → (at + 8 ≤ q) × (q ≤ end)
  unfolding ElemIn
  element_past room e = subst (ReadIn (at + 8) end) e (element_in_lem s syntax room end at floor h)

module _ (s : List ℕ) (end at : ℕ) (h : at ≤ end) where
  pub item_head_nest : {inside : Inside} → item_head_at s end at ≡ Nest inside → Fits (at + 8) inside.from inside.stop end
  item_head_nest e = subst (HeadIn (at + 8) end) e (item_head_in s end at h)

  pub item_past : (syntax : Syntax) (room : ℕ) {q : ℕ} → item_at s syntax room end at ≡ Ok q → (at + 8 ≤ q) × (q ≤ end)
  unfolding item_at
  item_past syntax room e = subst (ReadIn (at + 8) end) e (item_in (element_at s syntax room) (element_in_lem s syntax room) s room end at h)

-- One element.

pub element_fault : (s : List ℕ) (syntax : Syntax) (room end at floor : ℕ) {n : ℕ} → head_at s syntax end at floor ≡ Fault n → element_at s syntax room end at floor ≡ refused_at n at room
unfolding element_at
element_fault s syntax zero end at floor e = rw e
element_fault s syntax (suc room) end at floor e = rw e

pub element_value : (s : List ℕ) (syntax : Syntax) (room end at floor : ℕ) {part : Part} → head_at s syntax end at floor ≡ Value part → element_at s syntax room end at floor ≡ Ok part.stop
unfolding element_at
element_value s syntax zero end at floor e = rw e
element_value s syntax (suc room) end at floor e = rw e

pub element_full : (s : List ℕ) (syntax : Syntax) (room end at floor : ℕ) {inside : Inside} → room ≡ 0 → head_at s syntax end at floor ≡ Nest inside → element_at s syntax room end at floor ≡ refused_at 7 at room
unfolding element_at
element_full s syntax zero end at floor z e = rw e
element_full s syntax (suc room) end at floor z e = absurd (omega arith)

pub element_nest : (s : List ℕ) (syntax : Syntax) (room end at floor : ℕ) {inside : Inside} → (room ≡ 0 → ⊥) → head_at s syntax end at floor ≡ Nest inside → element_at s syntax room end at floor ≡ items_from (element_at s syntax (room - 1)) s (room - 1) inside inside.from
unfolding element_at
element_nest s syntax zero end at floor z e = absurd (z refl)
element_nest s syntax (suc room) end at floor z e = rw (e, sub-one (suc room))

-- an element that is read has no tag below the floor
abbrev AboveFloor : ℕ → ℕ → Result ℕ Stop → Type 0
AboveFloor floor tag r = (q : ℕ) → r ≡ Ok q → floor ≤ tag

behind_above : (s : List ℕ) (syntax : Syntax) (room end at floor : ℕ) (held : Inside → Result ℕ Stop) → AboveFloor floor (tag_at s at) (behind held room at (head_at s syntax end at floor))
unfolding head_at
behind_above s syntax room end at floor held =
    first_cases (λ d. AboveFloor floor (tag_at s at) (behind held room at d)) Fault (element_rules s syntax end at floor) _
    (λ n q e. let z : ◌≡◌ {A = ℕ} 0 1 = cc in absurd (omega arith))
    (λ k q e. ltb-false (tag_at s at) floor k.1.1.0)

pub element_above : (s : List ℕ) (syntax : Syntax) (room end at floor : ℕ) → AboveFloor floor (tag_at s at) (element_at s syntax room end at floor)
unfolding element_at
element_above s syntax zero end at floor = behind_above s syntax zero end at floor _
element_above s syntax (suc room) end at floor = behind_above s syntax (suc room) end at floor _

-- One item.

module _ (s : List ℕ) (syntax : Syntax) (room end at : ℕ) where
  pub item_fault : {n : ℕ} → item_head_at s end at ≡ Fault n → item_at s syntax room end at ≡ refused_at n at room
  unfolding item_at item_with
  item_fault e = rw e

  pub item_value : {part : Part} → item_head_at s end at ≡ Value part → item_at s syntax room end at ≡ Ok part.stop
  unfolding item_at item_with
  item_value e = rw e

  pub item_nest : {inside : Inside} → item_head_at s end at ≡ Nest inside → item_at s syntax room end at ≡ list_at s (scope_of syntax room inside)
  unfolding item_at item_with list_at
  item_nest e = rw e

-- No tag below the floor is found any more.

module _ (s : List ℕ) (scope : Scope) (tag : ℕ) where
  on_trail_below : (m : Mark) (rest : Mark → List Mark) (k : Option ℕ) (r : Result ℕ Stop) → tag < m.floor → ((y : Mark) → tag < y.floor → among s scope.syntax scope.inside.stop tag (rest y) ≡ Missing) → AboveFloor m.floor (tag_at s m.at) r → among s scope.syntax scope.inside.stop tag (on_trail m rest (or_else k (onward r (λ q. mark q (tag_at s m.at + 1))))) ≡ Missing
  on_trail_below m rest (Some q) r h f g = refl
  on_trail_below m rest None (Ok q) h f g = let t = g q refl in rw (ne_eqb (tag_at s m.at) tag (λ e. omega arith)) (f (mark q (tag_at s m.at + 1)) (omega arith))
  on_trail_below m rest None (Err stop) h f g = refl

  trail_below : (fuel : ℕ) (m : Mark) → tag < m.floor → among s scope.syntax scope.inside.stop tag (trail (list_step (element_in s scope) s scope.inside) fuel m) ≡ Missing
  unfolding trail list_step
  trail_below zero m h = refl
  trail_below (suc fuel) m h =
      on_trail_below m _ (close_at s item_end scope.inside m.at) (element_in s scope scope.inside.stop m.at m.floor) h
      (λ y g. trail_below fuel y g) (element_above s scope.syntax scope.room scope.inside.stop m.at m.floor)

  pub find_below : (m : Mark) → tag < m.floor → among s scope.syntax scope.inside.stop tag (elements_from s scope m) ≡ Missing
  unfolding elements_from
  find_below m h = trail_below (suc (scope.inside.stop - m.at)) m h

-- One step of each walk.

module _ (s : List ℕ) (syntax : Syntax) (room : ℕ) (inside : Inside) (at : ℕ) (h : at ≤ inside.stop) where
  items_on : items_from (element_at s syntax room) s room inside at ≡ follow (λ y. items_from (element_at s syntax room) s room inside y) (or_else (close_at s sequence_end inside at) (onward (item_at s syntax room inside.stop at) (λ q. q)))
  unfolding item_step item_at
  items_on = items_unroll (element_at s syntax room) (element_in_lem s syntax room) s room inside at h

  pub items_done : {q : ℕ} → close_at s sequence_end inside at ≡ Some q → items_from (element_at s syntax room) s room inside at ≡ Ok q
  items_done k = items_on ∙ rw k

  pub items_refused : {stop : Stop} → close_at s sequence_end inside at ≡ None → item_at s syntax room inside.stop at ≡ Err stop → items_from (element_at s syntax room) s room inside at ≡ Err stop
  items_refused k e = items_on ∙ rw (k, e)

  pub items_more : {q : ℕ} → close_at s sequence_end inside at ≡ None → item_at s syntax room inside.stop at ≡ Ok q → items_from (element_at s syntax room) s room inside at ≡ items_from (element_at s syntax room) s room inside q
  items_more k e = items_on ∙ rw (k, e)

  module _ (floor : ℕ) where
    list_on : list_from (element_at s syntax room) s inside (mark at floor) ≡ follow (λ y. list_from (element_at s syntax room) s inside y) (or_else (close_at s item_end inside at) (onward (element_at s syntax room inside.stop at floor) (λ q. mark q (tag_at s at + 1))))
    unfolding list_step
    list_on = list_unroll (element_at s syntax room) (element_in_lem s syntax room) s room inside (mark at floor) h

    pub list_done : {q : ℕ} → close_at s item_end inside at ≡ Some q → list_from (element_at s syntax room) s inside (mark at floor) ≡ Ok q
    list_done k = list_on ∙ rw k

    pub list_refused : {stop : Stop} → close_at s item_end inside at ≡ None → element_at s syntax room inside.stop at floor ≡ Err stop → list_from (element_at s syntax room) s inside (mark at floor) ≡ Err stop
    list_refused k e = list_on ∙ rw (k, e)

    pub list_more : {q : ℕ} → close_at s item_end inside at ≡ None → element_at s syntax room inside.stop at floor ≡ Ok q → list_from (element_at s syntax room) s inside (mark at floor) ≡ list_from (element_at s syntax room) s inside (mark q (tag_at s at + 1))
    list_more k e = list_on ∙ rw (k, e)

-- One step of each trail.

module _ (s : List ℕ) (scope : Scope) (at : ℕ) (h : at ≤ scope.inside.stop) where
  items_of_on : items_of s scope at ≡ on_trail at (λ y. items_of s scope y) (or_else (close_at s sequence_end scope.inside at) (onward (item_at s scope.syntax scope.room scope.inside.stop at) (λ q. q)))
  unfolding item_step item_at items_of
  items_of_on = items_of_unroll (element_in s scope) (element_in_lem s scope.syntax scope.room) s scope.room scope.inside at h

  pub items_of_done : {q : ℕ} → close_at s sequence_end scope.inside at ≡ Some q → items_of s scope at ≡ []
  items_of_done k = items_of_on ∙ rw k

  pub items_of_refused : {stop : Stop} → close_at s sequence_end scope.inside at ≡ None → item_at s scope.syntax scope.room scope.inside.stop at ≡ Err stop → items_of s scope at ≡ []
  items_of_refused k e = items_of_on ∙ rw (k, e)

  pub items_of_more : {q : ℕ} → close_at s sequence_end scope.inside at ≡ None → item_at s scope.syntax scope.room scope.inside.stop at ≡ Ok q → items_of s scope at ≡ at ∷ items_of s scope q
  items_of_more k e = items_of_on ∙ rw (k, e)

  module _ (floor : ℕ) where
    elements_on : elements_from s scope (mark at floor) ≡ on_trail (mark at floor) (λ y. elements_from s scope y) (or_else (close_at s item_end scope.inside at) (onward (element_in s scope scope.inside.stop at floor) (λ q. mark q (tag_at s at + 1))))
    unfolding list_step elements_from
    elements_on = elements_unroll (element_in s scope) (element_in_lem s scope.syntax scope.room) s scope.room scope.inside (mark at floor) h

    pub elements_done : {q : ℕ} → close_at s item_end scope.inside at ≡ Some q → elements_from s scope (mark at floor) ≡ []
    elements_done k = elements_on ∙ rw k

    pub elements_more : {q : ℕ} → close_at s item_end scope.inside at ≡ None → element_in s scope scope.inside.stop at floor ≡ Ok q → elements_from s scope (mark at floor) ≡ mark at floor ∷ elements_from s scope (mark q (tag_at s at + 1))
    elements_more k e = elements_on ∙ rw (k, e)

    module _ (tag : ℕ) where
      pub find_done : {q : ℕ} → close_at s item_end scope.inside at ≡ Some q → among s scope.syntax scope.inside.stop tag (elements_from s scope (mark at floor)) ≡ Missing
      find_done k = rw (elements_on, k)

      pub find_refused : {stop : Stop} → close_at s item_end scope.inside at ≡ None → element_in s scope scope.inside.stop at floor ≡ Err stop → among s scope.syntax scope.inside.stop tag (elements_from s scope (mark at floor)) ≡ Missing
      find_refused k e = rw (elements_on, k, e)

      pub find_here : {q : ℕ} → close_at s item_end scope.inside at ≡ None → element_in s scope scope.inside.stop at floor ≡ Ok q → tag_at s at ≡ tag → among s scope.syntax scope.inside.stop tag (elements_from s scope (mark at floor)) ≡ found (head_at s scope.syntax scope.inside.stop at floor)
      find_here k e t = rw (elements_on, k, e, eq-eqb _ _ t)

      pub find_more : {q : ℕ} → close_at s item_end scope.inside at ≡ None → element_in s scope scope.inside.stop at floor ≡ Ok q → (tag_at s at ≡ tag → ⊥) → among s scope.syntax scope.inside.stop tag (elements_from s scope (mark at floor)) ≡ among s scope.syntax scope.inside.stop tag (elements_from s scope (mark q (tag_at s at + 1)))
      find_more k e t = rw (elements_on, k, e, ne_eqb _ _ t)

      -- nothing is found here but in an element that is read
      find_unread : close_at s item_end scope.inside at ≡ None → ((q : ℕ) → element_in s scope scope.inside.stop at floor ≡ Ok q → among s scope.syntax scope.inside.stop tag (elements_from s scope (mark at floor)) ≡ Missing) → among s scope.syntax scope.inside.stop tag (elements_from s scope (mark at floor)) ≡ Missing
      find_unread k f = unread (element_in s scope scope.inside.stop at floor) refl
        where
          unread : (r : Result ℕ Stop) → element_in s scope scope.inside.stop at floor ≡ r → among s scope.syntax scope.inside.stop tag (elements_from s scope (mark at floor)) ≡ Missing
          unread (Ok q) e = f q e
          unread (Err stop) e = find_refused k e

      pub find_short : close_at s item_end scope.inside at ≡ None → scope.inside.stop - at < 8 → among s scope.syntax scope.inside.stop tag (elements_from s scope (mark at floor)) ≡ Missing
      find_short k l = find_unread k (λ q e. let b = element_past s scope.syntax scope.inside.stop at floor h scope.room e in absurd (omega arith))

      pub find_above : close_at s item_end scope.inside at ≡ None → tag < tag_at s at → among s scope.syntax scope.inside.stop tag (elements_from s scope (mark at floor)) ≡ Missing
      find_above k l = find_unread k (λ q e. find_more k e (λ t. omega arith) ∙ find_below s scope tag (mark q (tag_at s at + 1)) (omega arith))

-- The items, by how many there are.

count_none : (s : List ℕ) (end : ℕ) (l : List ℕ) → length l ≡ 0 → counted s end l ≡ Empty
count_none s end [] e = refl
count_none s end (x ∷ l) e = absurd (omega arith)

count_several : (s : List ℕ) (end n : ℕ) (l : List ℕ) → n ≡ length l → (n ≡ 0 → ⊥) → (n ≡ 1 → ⊥) → counted s end l ≡ Several n
count_several s end n [] e z o = absurd (z e)
count_several s end n (x ∷ []) e z o = absurd (o e)
count_several s end n (x ∷ (y ∷ l)) e z o = rw e

only_head : (s : List ℕ) (end x : ℕ) (l : List ℕ) → length (x ∷ l) ≡ 1 → counted s end (x ∷ l) ≡ only (item_head_at s end x)
only_head s end x [] e = refl
only_head s end x (y ∷ l) e = absurd (omega arith)

first_of : (s : List ℕ) (end x : ℕ) (rest : ℕ → List ℕ) (n : Next ℕ) → length (on_trail x rest n) ≡ 1 → counted s end (on_trail x rest n) ≡ only (item_head_at s end x)
first_of s end x rest (again y) e = only_head s end x (rest y) e
first_of s end x rest (done r) e = absurd (omega arith)

module _ (s : List ℕ) (scope : Scope) where
  pub items_none : length (items_of s scope scope.inside.from) ≡ 0 → items_at s scope ≡ Empty
  unfolding items_at
  items_none e = count_none s scope.inside.stop (items_of s scope scope.inside.from) e

  -- the only item is the first
  pub items_one : scope.inside.from ≤ scope.inside.stop → length (items_of s scope scope.inside.from) ≡ 1 → items_at s scope ≡ only (item_head_at s scope.inside.stop scope.inside.from)
  unfolding items_at
  items_one h e =
      let u = items_of_on s scope scope.inside.from h in
      rw u
      (first_of s scope.inside.stop scope.inside.from (λ y. items_of s scope y)
      (or_else (close_at s sequence_end scope.inside scope.inside.from) (onward (item_at s scope.syntax scope.room scope.inside.stop scope.inside.from) (λ q. q)))
      (rw u at e))

  pub items_several : (n : ℕ) → n ≡ length (items_of s scope scope.inside.from) → (n ≡ 0 → ⊥) → (n ≡ 1 → ⊥) → items_at s scope ≡ Several n
  unfolding items_at
  items_several n = count_several s scope.inside.stop n (items_of s scope scope.inside.from)

-- What is found lies within the list.

found_in : (low end : ℕ) (d : Head) → HeadIn low end d → FoundIn low end (found d)
found_in low end (Fault n) g = tt
found_in low end (Value part) g = g
found_in low end (Nest inside) g = g

lower_head : (low low' end : ℕ) (d : Head) → low ≤ low' → HeadIn low' end d → HeadIn low end d
lower_head low low' end (Fault n) h g = g
lower_head low low' end (Value part) h g = (omega arith, g.1)
lower_head low low' end (Nest inside) h g = (omega arith, g.1)

among_in : (s : List ℕ) (syntax : Syntax) (low end tag : ℕ) (ms : List Mark) → AllIn place low end ms → FoundIn (low + 8) end (among s syntax end tag ms)
among_in s syntax low end tag [] h = tt
among_in s syntax low end tag (m ∷ ms) h =
    pick_cases (FoundIn (low + 8) end) (eqb (tag_at s m.at) tag) _ _
    (λ _. found_in (low + 8) end (head_at s syntax end m.at m.floor) (lower_head (low + 8) (m.at + 8) end (head_at s syntax end m.at m.floor) (omega arith) (head_in s syntax end m.at m.floor h.0.1)))
    (λ _. among_in s syntax low end tag ms h.1)

pub find_within : (s : List ℕ) (scope : Scope) (tag : ℕ) → scope.inside.from ≤ scope.inside.stop → FoundIn (scope.inside.from + 8) scope.inside.stop (find_at s scope tag)
unfolding find_at elements_from
find_within s scope tag h =
    among_in s scope.syntax scope.inside.from scope.inside.stop tag (elements_from s scope (start scope.inside)) (elements_in (element_in s scope) (element_in_lem s scope.syntax scope.room) s scope.room scope.inside (start scope.inside) h)

-- what was found in all of a data set
pub found_whole : (s : List ℕ) (syntax : Syntax) (tag : ℕ) (scope : Scope) (f g : Found) → scope ≡ data_scope s syntax → f ≡ find_at s scope tag → f ≡ g → find_at s (data_scope s syntax) tag ≡ g
found_whole s syntax tag scope f g e r h = ap (λ (x : Scope). find_at s x tag) (sym e) ∙ sym r ∙ h

only_in : (low end : ℕ) (d : Head) → HeadIn low end d → ItemsIn low end (only d)
only_in low end (Fault n) g = tt
only_in low end (Value part) g = tt
only_in low end (Nest inside) g = g

counted_in : (s : List ℕ) (low end : ℕ) (l : List ℕ) → AllIn (λ x. x) low end l → ItemsIn (low + 8) end (counted s end l)
counted_in s low end [] h = tt
counted_in s low end (at ∷ []) h = only_in (low + 8) end (item_head_at s end at) (lower_head (low + 8) (at + 8) end (item_head_at s end at) (omega arith) (item_head_in s end at h.0.1))
counted_in s low end (at ∷ (next ∷ more)) h = tt

pub items_within : (s : List ℕ) (scope : Scope) → scope.inside.from ≤ scope.inside.stop → ItemsIn (scope.inside.from + 8) scope.inside.stop (items_at s scope)
unfolding items_at items_of
items_within s scope h =
    counted_in s scope.inside.from scope.inside.stop (items_of s scope scope.inside.from) (items_of_in (element_in s scope) (element_in_lem s scope.syntax scope.room) s scope.room scope.inside scope.inside.from h)
