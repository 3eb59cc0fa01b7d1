-- The watchdog's ceiling (R-6): each header that is passed takes eight bytes or more before the place where the reading ends.
-- Assumes nothing.
use mathlib.Core.Path.{◌≡◌, refl, subst}
use mathlib.Core.List.{List}
use Prim.Native.Nat.{ℕ, zero, suc, ◌+◌, ◌-◌, ◌*◌, ◌/◌, ◌≤◌, ◌<◌}
use native.Mathlib.Omega.{arith}
use lib.ListN.{length}
use Rattle.std.specs.Prelude.{Option, Some, None, Result, Ok, Err}
use Rattle.headers.specs.declared.Syntax.{Syntax}
use Rattle.headers.specs.declared.Inside.{Inside}
use Rattle.headers.specs.declared.Scope.{Scope}
use Rattle.headers.specs.declared.Head.{Head}
use Rattle.headers.specs.declared.Head.TheVariants.{Fault, Value, Nest}
use Rattle.headers.specs.Header.{head_at, item_head_at, close_at}
use Rattle.headers.proofs.Within.{HeadIn, Delimited, close_behind, head_in, item_head_in}
use Rattle.elements.specs.declared.Stop.{Stop}
use Rattle.elements.specs.Walk.{Next, again, done, follow, onward, walk}
use Rattle.elements.specs.Reader.{most_nested, item_end, sequence_end, Elem, behind, or_else, Mark, start, list_step, list_from, item_with, item_step, items_from, element_at, element_in, list_at, item_at, whole, data_scope, data_set}
use Rattle.elements.specs.Passed.{further, tally, passed_behind, unless_closed, Passing, list_passed, item_passed, items_passed, element_passed, item_passed_at, passed_in, headers_passed}
use Rattle.elements.proofs.Within.{ReadIn, NextIn}
use Rattle.elements.proofs.Grammar.{place, ElemIn, element_in_lem, item_in, list_in, list_step_in, item_step_in}
use Rattle.elements.proofs.Beyond.{ReadsTo, StepsTo, nearer}

follow_within : {S : Type 0} (place_of : S → ℕ) (low end at a : ℕ) (rest : S → Result ℕ Stop) (count : S → ℕ) (n : Next S) → NextIn place_of low end n
    → ((y : S) → low < place_of y → place_of y ≤ end → ReadsTo (place_of y + 8 * count y) (rest y))
    → StepsTo place_of (at + 8 * a) n → ReadsTo (at + 8 * (a + further count n)) (follow rest n)
follow_within place_of low end at a rest count (again y) h f g = nearer (at + 8 * (a + count y)) (place_of y + 8 * count y) (rest y) (omega arith) (f y h.0 h.1)
follow_within place_of low end at a rest count (done r) h f g = nearer (at + 8 * (a + 0)) (at + 8 * a) r (omega arith) g

tally_within : {S : Type 0} (place_of : S → ℕ) (end : ℕ) (step : S → Next S) (passed : S → ℕ)
    → ((x : S) → place_of x ≤ end → NextIn place_of (place_of x) end (step x)) → ((x : S) → place_of x ≤ end → StepsTo place_of (place_of x + 8 * passed x) (step x))
    → (fuel : ℕ) (x : S) → place_of x ≤ end → end - place_of x < fuel → ReadsTo (place_of x + 8 * tally step passed fuel x) (walk step fuel x)
unfolding walk tally
tally_within place_of end step passed good far zero x h l = absurd (omega arith)
tally_within place_of end step passed good far (suc fuel) x h l =
    follow_within place_of (place_of x) end (place_of x) (passed x) (λ y. walk step fuel y) (λ y. tally step passed fuel y) (step x) (good x h)
    (λ y m g. tally_within place_of end step passed good far fuel y g (omega arith)) (far x h)

behind_within : (held : Inside → Result ℕ Stop) (passed : Inside → ℕ) (room at end : ℕ) (d : Head) → HeadIn (at + 8) end d
    → ((inside : Inside) → at + 8 ≤ inside.from → inside.from ≤ inside.stop → ReadsTo (at + 8 * passed inside) (held inside))
    → ReadsTo (at + 8 * passed_behind passed d) (behind held room at d)
behind_within held passed room at end (Fault n) h f = (omega arith, h.0)
behind_within held passed room at end (Value part) h f = omega arith
behind_within held passed room at end (Nest inside) h f = f inside h.0 h.1.0

step_within : {S : Type 0} (place_of : S → ℕ) (at : ℕ) (inside : Inside) (k : Option ℕ) (r : Result ℕ Stop) (n : ℕ) (on : ℕ → S) → ((q : ℕ) → place_of (on q) ≡ q)
    → Delimited at inside.loose k → ReadsTo (at + 8 * n) r → StepsTo place_of (at + 8 * unless_closed inside k n) (or_else k (onward r on))
step_within place_of at inside (Some q) r n on e g h = g
step_within place_of at inside None (Ok q) n on e g h = omega (arith, e q)
step_within place_of at inside None (Err stop) n on e g h = h

-- behind its own header, what a sequence or an item holds
header_too : (at from n : ℕ) (r : Result ℕ Stop) → at + 8 ≤ from → ReadsTo (from + 8 * n) r → ReadsTo (at + 8 * suc n) r
header_too at from n r h g = nearer (at + 8 * suc n) (from + 8 * n) r (omega arith) g

-- a reader of elements, and what it passes
unfoldable pub ElemWithin : Elem → Passing → Type 0
ElemWithin element passes = (end at floor : ℕ) → at ≤ end → ReadsTo (at + 8 * passes end at floor) (element end at floor)

module _ (element : Elem) (good : ElemIn element) (passes : Passing) (within : ElemWithin element passes) (s : List ℕ) (room : ℕ) where
  pub list_within : (inside : Inside) (m : Mark) → m.at ≤ inside.stop → ReadsTo (m.at + 8 * list_passed element passes s inside m) (list_from element s inside m)
  unfolding list_from list_passed list_step ElemWithin
  list_within inside m h =
      tally_within place inside.stop (list_step element s inside) _ (list_step_in element good s room inside)
      (λ x l. step_within place x.at inside (close_at s item_end inside x.at) (element inside.stop x.at x.floor) (passes inside.stop x.at x.floor) _ (λ q. refl)
      (close_behind s item_end inside x.at) (within inside.stop x.at x.floor l))
      (suc (inside.stop - m.at)) m h (omega arith)

  pub item_within : (end at : ℕ) → at ≤ end → ReadsTo (at + 8 * item_passed element passes s end at) (item_with element s room end at)
  unfolding item_with item_passed
  item_within end at h =
      behind_within _ _ room at end (item_head_at s end at) (item_head_in s end at h)
      (λ inside l g. header_too at inside.from (list_passed element passes s inside (start inside)) (list_from element s inside (start inside)) l (list_within inside (start inside) g))

  items_within : (inside : Inside) (at : ℕ) → at ≤ inside.stop → ReadsTo (at + 8 * items_passed element passes s room inside at) (items_from element s room inside at)
  unfolding items_from items_passed item_step
  items_within inside at h =
      tally_within (λ x. x) inside.stop (item_step element s room inside) _ (item_step_in element good s room inside)
      (λ x l. step_within (λ y. y) x inside (close_at s sequence_end inside x) (item_with element s room inside.stop x) (item_passed element passes s inside.stop x) (λ q. q) (λ q. refl)
      (close_behind s sequence_end inside x) (item_within inside.stop x l))
      (suc (inside.stop - at)) at h (omega arith)

pub element_within : (s : List ℕ) (syntax : Syntax) (room : ℕ) → ElemWithin (element_at s syntax room) (element_passed s syntax room)
unfolding element_at element_passed ElemWithin
element_within s syntax zero end at floor h =
    behind_within _ _ zero at end (head_at s syntax end at floor) (head_in s syntax end at floor h) (λ inside l g. omega arith)
element_within s syntax (suc room) end at floor h =
    behind_within _ _ (suc room) at end (head_at s syntax end at floor) (head_in s syntax end at floor h)
    (λ inside l g. header_too at inside.from (items_passed (element_at s syntax room) (element_passed s syntax room) s room inside inside.from) (items_from (element_at s syntax room) s room inside inside.from) l
    (items_within (element_at s syntax room) (element_in_lem s syntax room) (element_passed s syntax room) (element_within s syntax room) s room inside inside.from g))

-- So much lies before the enclosing end, and before the place behind what was read.

ends_within : (low end n : ℕ) (r : Result ℕ Stop) → ReadIn low end r → ReadsTo n r → n ≤ end
ends_within low end n (Ok q) h g = omega arith
ends_within low end n (Err stop) h g = omega arith

module _ (s : List ℕ) (syntax : Syntax) (room end at : ℕ) (h : at ≤ end) where
  pub element_passed_past : (floor : ℕ) {q : ℕ} → element_at s syntax room end at floor ≡ Ok q → at + 8 * element_passed s syntax room end at floor ≤ q
  unfolding ElemWithin
  element_passed_past floor e = subst (ReadsTo (at + 8 * element_passed s syntax room end at floor)) e (element_within s syntax room end at floor h)

  pub element_ceiling : (floor : ℕ) {n : ℕ} → n ≡ element_passed s syntax room end at floor → at + 8 * n ≤ end
  unfolding ElemIn ElemWithin
  element_ceiling floor e = rw e (ends_within (at + 8) end _ (element_at s syntax room end at floor) (element_in_lem s syntax room end at floor h) (element_within s syntax room end at floor h))

  item_reads_to : ReadsTo (at + 8 * item_passed_at s syntax room end at) (item_at s syntax room end at)
  unfolding item_at item_passed_at
  item_reads_to = item_within (element_at s syntax room) (element_in_lem s syntax room) (element_passed s syntax room) (element_within s syntax room) s room end at h

  pub item_passed_past : {q : ℕ} → item_at s syntax room end at ≡ Ok q → at + 8 * item_passed_at s syntax room end at ≤ q
  item_passed_past e = subst (ReadsTo (at + 8 * item_passed_at s syntax room end at)) e item_reads_to

  pub item_ceiling : {n : ℕ} → n ≡ item_passed_at s syntax room end at → at + 8 * n ≤ end
  unfolding item_at
  item_ceiling e = rw e (ends_within (at + 8) end _ (item_at s syntax room end at) (item_in (element_at s syntax room) (element_in_lem s syntax room) s room end at h) item_reads_to)

pub list_ceiling : (s : List ℕ) (scope : Scope) → scope.inside.from ≤ scope.inside.stop → {n : ℕ} → n ≡ passed_in s scope → scope.inside.from + 8 * n ≤ scope.inside.stop
unfolding passed_in
list_ceiling s scope h e =
    let room = scope.room in
    let element = element_in s scope in
    let good = element_in_lem s scope.syntax room in
    rw e
    (ends_within scope.inside.from scope.inside.stop _ (list_from element s scope.inside (start scope.inside)) (list_in element good s room scope.inside (start scope.inside) h)
    (list_within element good (element_passed s scope.syntax room) (element_within s scope.syntax room) s room scope.inside (start scope.inside) h))

-- The headers that the reading of a data set passes lie before the place where it ends, read or refused.
pub passed_before : (s : List ℕ) (syntax : Syntax) → ReadsTo (8 * headers_passed s syntax) (data_set s syntax)
unfolding data_set list_at headers_passed passed_in
passed_before s syntax =
    nearer (8 * headers_passed s syntax) (0 + 8 * headers_passed s syntax) (data_set s syntax) (omega arith)
    (list_within (element_at s syntax most_nested) (element_in_lem s syntax most_nested) (element_passed s syntax most_nested) (element_within s syntax most_nested) s most_nested (whole s) (start (whole s)) (omega arith))

-- They are at most the length divided by eight, rounded down.
pub passed_ceiling : (s : List ℕ) (syntax : Syntax) → headers_passed s syntax ≤ length s / 8
unfolding headers_passed
passed_ceiling s syntax = let c = list_ceiling s (data_scope s syntax) (omega arith) refl in omega arith
