-- A reading that begins at a place ends there or later, and a part that is not refused where it begins ends behind its header.
-- Assumes nothing.
use mathlib.Core.Path.{◌≡◌, refl}
use mathlib.Core.List.{List}
use Prim.Native.Nat.{ℕ, zero, suc, ◌+◌, ◌-◌, ◌≤◌, ◌<◌}
use native.Mathlib.Omega.{arith}
use Rattle.std.specs.Prelude.{Option, Some, None, Result, Ok, Err}
use Rattle.headers.specs.declared.Syntax.{Syntax}
use Rattle.headers.specs.declared.Inside.{Inside}
use Rattle.headers.specs.declared.Head.{Head}
use Rattle.headers.specs.declared.Head.TheVariants.{Fault, Value, Nest}
use Rattle.headers.specs.Header.{head_at, item_head_at, close_at}
use Rattle.headers.proofs.Within.{CloseIn, HeadIn, close_in, head_in, item_head_in}
use Rattle.elements.specs.declared.Stop.{Stop}
use Rattle.elements.specs.Walk.{Next, again, done, follow, onward, walk}
use Rattle.elements.specs.Reader.{item_end, sequence_end, Elem, behind, or_else, Mark, start, list_step, list_from, item_with, item_step, items_from, element_at}
use Rattle.elements.proofs.Within.{NextIn}
use Rattle.elements.proofs.Grammar.{place, ElemIn, element_in_lem, list_step_in, item_step_in}

-- read to a place, or refused there or later, with a number
abbrev pub ReadsTo : ℕ → Result ℕ Stop → Type 0
ReadsTo place (Ok q) = place ≤ q
ReadsTo place (Err stop) = (place ≤ stop.place) × (1 ≤ stop.number)

abbrev pub StepsTo : {S : Type 0} → (S → ℕ) → ℕ → Next S → Type 0
StepsTo place_of p (again y) = p ≤ place_of y
StepsTo place_of p (done r) = ReadsTo p r

-- a part is refused where it begins, or ends behind its header
abbrev pub Passes : ℕ → Result ℕ Stop → Type 0
Passes at (Ok q) = at + 8 ≤ q
Passes at (Err stop) = (at ≤ stop.place) × (1 ≤ stop.number) × (at < stop.place → at + 8 ≤ stop.place)

pub nearer : (low low' : ℕ) (r : Result ℕ Stop) → low ≤ low' → ReadsTo low' r → ReadsTo low r
nearer low low' (Ok q) h g = omega arith
nearer low low' (Err stop) h g = (omega arith, g.1)

pub passes_to : (at : ℕ) (r : Result ℕ Stop) → Passes at r → ReadsTo at r
passes_to at (Ok q) g = omega arith
passes_to at (Err stop) g = (g.0, g.1)

to_passes : (at low : ℕ) (r : Result ℕ Stop) → at + 8 ≤ low → ReadsTo low r → Passes at r
to_passes at low (Ok q) h g = omega arith
to_passes at low (Err stop) h g = (omega arith, g.1, λ l. omega arith)

pub follow_to : {S : Type 0} (place_of : S → ℕ) (low end p : ℕ) (rest : S → Result ℕ Stop) (n : Next S) → NextIn place_of low end n → ((y : S) → low < place_of y → place_of y ≤ end → ReadsTo (place_of y) (rest y)) → StepsTo place_of p n → ReadsTo p (follow rest n)
follow_to place_of low end p rest (again y) h f g = nearer p (place_of y) (rest y) g (f y h.0 h.1)
follow_to place_of low end p rest (done r) h f g = g

pub walk_to : {S : Type 0} (place_of : S → ℕ) (end : ℕ) (step : S → Next S) → ((x : S) → place_of x ≤ end → NextIn place_of (place_of x) end (step x)) → ((x : S) → place_of x ≤ end → StepsTo place_of (place_of x) (step x)) → (fuel : ℕ) (x : S) → place_of x ≤ end → end - place_of x < fuel → ReadsTo (place_of x) (walk step fuel x)
unfolding walk
walk_to place_of end step good far zero x h l = absurd (omega arith)
walk_to place_of end step good far (suc fuel) x h l =
    follow_to place_of (place_of x) end (place_of x) (λ y. walk step fuel y) (step x) (good x h)
    (λ y m g. walk_to place_of end step good far fuel y g (omega arith)) (far x h)

behind_to : (held : Inside → Result ℕ Stop) (room at end : ℕ) (d : Head) → HeadIn (at + 8) end d → ((inside : Inside) → at + 8 ≤ inside.from → inside.from ≤ inside.stop → Passes at (held inside)) → Passes at (behind held room at d)
behind_to held room at end (Fault n) h f = (omega arith, h.0, λ l. omega arith)
behind_to held room at end (Value part) h f = omega arith
behind_to held room at end (Nest inside) h f = f inside h.0 h.1.0

step_to : {S : Type 0} (place_of : S → ℕ) (at end : ℕ) (k : Option ℕ) (r : Result ℕ Stop) (on : ℕ → S) → ((q : ℕ) → place_of (on q) ≡ q) → CloseIn at end k → Passes at r → StepsTo place_of at (or_else k (onward r on))
step_to place_of at end (Some q) r on e g h = g.0
step_to place_of at end None (Ok q) on e g h = omega (arith, e q)
step_to place_of at end None (Err stop) on e g h = (h.0, h.1)

-- a reader of elements
unfoldable pub ElemTo : Elem → Type 0
ElemTo element = (end at floor : ℕ) → at ≤ end → Passes at (element end at floor)

module _ (element : Elem) (good : ElemIn element) (far : ElemTo element) (s : List ℕ) (room : ℕ) where
  pub list_step_to : (inside : Inside) (m : Mark) → m.at ≤ inside.stop → StepsTo place m.at (list_step element s inside m)
  unfolding list_step ElemTo
  list_step_to inside m h =
      step_to place m.at inside.stop (close_at s item_end inside m.at) (element inside.stop m.at m.floor) _ (λ q. refl)
      (close_in s item_end inside m.at h) (far inside.stop m.at m.floor h)

  pub list_to : (inside : Inside) (m : Mark) → m.at ≤ inside.stop → ReadsTo m.at (list_from element s inside m)
  unfolding list_from
  list_to inside m h = walk_to place inside.stop (list_step element s inside) (list_step_in element good s room inside) (list_step_to inside) (suc (inside.stop - m.at)) m h (omega arith)

  pub item_to : (end at : ℕ) → at ≤ end → Passes at (item_with element s room end at)
  unfolding item_with
  item_to end at h =
      behind_to _ room at end (item_head_at s end at) (item_head_in s end at h)
      (λ inside l g. to_passes at inside.from (list_from element s inside (start inside)) l (list_to inside (start inside) g))

  pub item_step_to : (inside : Inside) (at : ℕ) → at ≤ inside.stop → StepsTo (λ x. x) at (item_step element s room inside at)
  unfolding item_step
  item_step_to inside at h =
      step_to (λ x. x) at inside.stop (close_at s sequence_end inside at) (item_with element s room inside.stop at) (λ q. q) (λ q. refl)
      (close_in s sequence_end inside at h) (item_to inside.stop at h)

  pub items_to : (inside : Inside) (at : ℕ) → at ≤ inside.stop → ReadsTo at (items_from element s room inside at)
  unfolding items_from
  items_to inside at h = walk_to (λ x. x) inside.stop (item_step element s room inside) (item_step_in element good s room inside) (item_step_to inside) (suc (inside.stop - at)) at h (omega arith)

pub element_to : (s : List ℕ) (syntax : Syntax) (room : ℕ) → ElemTo (element_at s syntax room)
unfolding element_at ElemTo
element_to s syntax zero end at floor h =
    behind_to _ zero at end (head_at s syntax end at floor) (head_in s syntax end at floor h) (λ inside l g. (omega arith, omega arith, λ m. omega arith))
element_to s syntax (suc room) end at floor h =
    behind_to _ (suc room) at end (head_at s syntax end at floor) (head_in s syntax end at floor h)
    (λ inside l g. to_passes at inside.from (items_from (element_at s syntax room) s room inside inside.from) l
    (items_to (element_at s syntax room) (element_in_lem s syntax room) (element_to s syntax room) s room inside inside.from g))
