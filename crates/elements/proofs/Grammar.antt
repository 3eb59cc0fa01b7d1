-- The grammar's walks go on at each step, so each unrolls.
-- Assumes nothing.
use mathlib.Core.Path.{◌≡◌, refl}
use mathlib.Core.List.{List}
use Prim.Native.Nat.{ℕ, zero, suc, ◌+◌, ◌-◌, ◌≤◌}
use native.Mathlib.Omega.{arith}
use Rattle.std.specs.Prelude.{Option, Some, None, Result, Ok, Err}
use Rattle.headers.specs.declared.Syntax.{Syntax}
use Rattle.headers.specs.declared.Inside.{Inside}
use Rattle.headers.specs.declared.Head.{Head}
use Rattle.headers.specs.declared.Head.TheVariants.{Fault, Value, Nest}
use Rattle.headers.specs.Header.{head_at, item_head_at, close_at}
use Rattle.headers.proofs.Within.{CloseIn, HeadIn, close_in, head_in, item_head_in}
use Rattle.elements.specs.declared.Stop.{Stop}
use Rattle.elements.specs.Walk.{follow, onward, on_trail, trail}
use Rattle.elements.specs.Reader.{item_end, sequence_end, Elem, behind, or_else, Mark, start, list_step, list_from, item_with, item_step, items_from, element_at}
use Rattle.elements.proofs.Within.{ReadIn, NextIn, AllIn}
use Rattle.elements.proofs.Steps.{walk_in, unroll, trail_unroll, trail_in}

abbrev pub place : Mark → ℕ
place m = m.at

widen : (a b c d : ℕ) (r : Result ℕ Stop) → a ≤ b → c ≤ d → ReadIn b c r → ReadIn a d r
widen a b c d (Ok q) h k g = (omega arith, omega arith)
widen a b c d (Err stop) h k g = (g.0, omega arith, g.2)

-- what stands behind a header
behind_in : (held : Inside → Result ℕ Stop) (room at low end : ℕ) (d : Head) → at ≤ end → ((inside : Inside) → low ≤ inside.from → inside.from ≤ inside.stop → ReadIn inside.from inside.stop (held inside)) → HeadIn low end d → ReadIn low end (behind held room at d)
behind_in held room at low end (Fault n) h f g = (g.1, h, omega arith)
behind_in held room at low end (Value part) h f g = (omega arith, g.1.1)
behind_in held room at low end (Nest inside) h f g = widen low inside.from inside.stop end (held inside) g.0 g.1.1 (f inside g.0 g.1.0)

step_in : {S : Type 0} (at_of : S → ℕ) (at end : ℕ) (k : Option ℕ) (r : Result ℕ Stop) (on : ℕ → S) → ((q : ℕ) → at_of (on q) ≡ q) → CloseIn at end k → ReadIn (at + 8) end r → NextIn at_of at end (or_else k (onward r on))
step_in at_of at end (Some q) r on e g h = g
step_in at_of at end None (Ok q) on e g h = (omega (arith, e q), omega (arith, e q))
step_in at_of at end None (Err stop) on e g h = h

-- a reader of elements goes past a header at least, and stays within
unfoldable pub ElemIn : Elem → Type 0
ElemIn element = (end at floor : ℕ) → at ≤ end → ReadIn (at + 8) end (element end at floor)

module _ (element : Elem) (good : ElemIn element) (s : List ℕ) (room : ℕ) where
  pub list_step_in : (inside : Inside) (m : Mark) → m.at ≤ inside.stop → NextIn place m.at inside.stop (list_step element s inside m)
  unfolding list_step ElemIn
  list_step_in inside m h =
      step_in place m.at inside.stop (close_at s item_end inside m.at) (element inside.stop m.at m.floor) _ (λ q. refl)
      (close_in s item_end inside m.at h) (good inside.stop m.at m.floor h)

  pub list_unroll : (inside : Inside) (m : Mark) → m.at ≤ inside.stop → list_from element s inside m ≡ follow (λ y. list_from element s inside y) (list_step element s inside m)
  unfolding list_from
  list_unroll inside m h = unroll place inside.stop (list_step element s inside) (list_step_in inside) m h

  pub list_in : (inside : Inside) (m : Mark) → m.at ≤ inside.stop → ReadIn m.at inside.stop (list_from element s inside m)
  unfolding list_from
  list_in inside m h = walk_in place inside.stop (list_step element s inside) (list_step_in inside) (suc (inside.stop - m.at)) m h

  pub item_in : (end at : ℕ) → at ≤ end → ReadIn (at + 8) end (item_with element s room end at)
  unfolding item_with
  item_in end at h = behind_in _ room at (at + 8) end (item_head_at s end at) h (λ inside l g. list_in inside (start inside) g) (item_head_in s end at h)

  pub item_step_in : (inside : Inside) (at : ℕ) → at ≤ inside.stop → NextIn (λ x. x) at inside.stop (item_step element s room inside at)
  unfolding item_step
  item_step_in inside at h =
      step_in (λ x. x) at inside.stop (close_at s sequence_end inside at) (item_with element s room inside.stop at) (λ q. q) (λ q. refl)
      (close_in s sequence_end inside at h) (item_in inside.stop at h)

  pub items_unroll : (inside : Inside) (at : ℕ) → at ≤ inside.stop → items_from element s room inside at ≡ follow (λ y. items_from element s room inside y) (item_step element s room inside at)
  unfolding items_from
  items_unroll inside at h = unroll (λ x. x) inside.stop (item_step element s room inside) (item_step_in inside) at h

  items_in_lem : (inside : Inside) (at : ℕ) → at ≤ inside.stop → ReadIn at inside.stop (items_from element s room inside at)
  unfolding items_from
  items_in_lem inside at h = walk_in (λ x. x) inside.stop (item_step element s room inside) (item_step_in inside) (suc (inside.stop - at)) at h

  pub elements_unroll : (inside : Inside) (m : Mark) → m.at ≤ inside.stop → trail (list_step element s inside) (suc (inside.stop - m.at)) m ≡ on_trail m (λ y. trail (list_step element s inside) (suc (inside.stop - y.at)) y) (list_step element s inside m)
  elements_unroll inside m h = trail_unroll place inside.stop (list_step element s inside) (list_step_in inside) m h

  pub items_of_unroll : (inside : Inside) (at : ℕ) → at ≤ inside.stop → trail (item_step element s room inside) (suc (inside.stop - at)) at ≡ on_trail at (λ y. trail (item_step element s room inside) (suc (inside.stop - y)) y) (item_step element s room inside at)
  items_of_unroll inside at h = trail_unroll (λ x. x) inside.stop (item_step element s room inside) (item_step_in inside) at h

  pub elements_in : (inside : Inside) (m : Mark) → m.at ≤ inside.stop → AllIn place m.at inside.stop (trail (list_step element s inside) (suc (inside.stop - m.at)) m)
  elements_in inside m h = trail_in place inside.stop (list_step element s inside) (list_step_in inside) (suc (inside.stop - m.at)) m h

  pub items_of_in : (inside : Inside) (at : ℕ) → at ≤ inside.stop → AllIn (λ x. x) at inside.stop (trail (item_step element s room inside) (suc (inside.stop - at)) at)
  items_of_in inside at h = trail_in (λ x. x) inside.stop (item_step element s room inside) (item_step_in inside) (suc (inside.stop - at)) at h

pub element_in_lem : (s : List ℕ) (syntax : Syntax) (room : ℕ) → ElemIn (element_at s syntax room)
unfolding element_at ElemIn
element_in_lem s syntax zero end at floor h = behind_in _ zero at (at + 8) end (head_at s syntax end at floor) h (λ inside l g. omega arith) (head_in s syntax end at floor h)
element_in_lem s syntax (suc room) end at floor h =
    behind_in _ (suc room) at (at + 8) end (head_at s syntax end at floor) h
    (λ inside l g. items_in_lem (element_at s syntax room) (element_in_lem s syntax room) s room inside inside.from g)
    (head_in s syntax end at floor h)
