-- What each way through the readers passes, one law each.
-- Assumes nothing.
use mathlib.Core.Path.{◌≡◌, refl, ap, ◌∙◌}
use mathlib.Core.List.{List}
use Prim.Native.Nat.{ℕ, zero, suc, ◌+◌, ◌-◌, ◌≤◌, ◌<◌}
use native.Mathlib.Numerals.{sub-one}
use native.Mathlib.Omega.{arith}
use Rattle.std.specs.Prelude.{Some, None, Ok, Err}
use Rattle.headers.specs.declared.Syntax.{Syntax}
use Rattle.headers.specs.declared.Part.{Part}
use Rattle.headers.specs.declared.Inside.{Inside}
use Rattle.headers.specs.declared.Head.TheVariants.{Fault, Value, Nest}
use Rattle.headers.specs.Header.{tag_at, head_at, item_head_at, close_at}
use Rattle.elements.specs.declared.Stop.{Stop}
use Rattle.elements.specs.Walk.{Next, again, done, onward}
use Rattle.elements.specs.Reader.{item_end, sequence_end, or_else, list_step, item_step, element_at, scope_of, item_at}
use Rattle.elements.specs.Passed.{further, tally, delimiters, unless_closed, list_passed, item_passed, items_passed, element_passed, item_passed_at, passed_in}
use Rattle.elements.proofs.Within.{NextIn}
use Rattle.elements.proofs.Grammar.{place, element_in_lem, list_step_in, item_step_in}

-- Any fuel above what is left gives the same.

further_same : {S : Type 0} (place_of : S → ℕ) (low end : ℕ) (f g : S → ℕ) (n : Next S) → ((y : S) → low < place_of y → place_of y ≤ end → f y ≡ g y) → NextIn place_of low end n → further f n ≡ further g n
further_same place_of low end f g (again y) same h = same y h.0 h.1
further_same place_of low end f g (done r) same h = refl

module _ {S : Type 0} (place_of : S → ℕ) (end : ℕ) (step : S → Next S) (passed : S → ℕ) (good : (x : S) → place_of x ≤ end → NextIn place_of (place_of x) end (step x)) where
  tally_enough : (k m : ℕ) (x : S) → place_of x ≤ end → end - place_of x < k → end - place_of x < m → tally step passed k x ≡ tally step passed m x
  unfolding tally
  tally_enough zero m x h a b = absurd (omega arith)
  tally_enough (suc k) zero x h a b = absurd (omega arith)
  tally_enough (suc k) (suc m) x h a b =
      ap (λ (n : ℕ). passed x + n)
      (further_same place_of (place_of x) end (λ y. tally step passed k y) (λ y. tally step passed m y) (step x)
      (λ y l g. tally_enough k m y g (omega arith) (omega arith)) (good x h))

  tally_unroll : (x : S) → place_of x ≤ end → tally step passed (suc (end - place_of x)) x ≡ passed x + further (λ y. tally step passed (suc (end - place_of y)) y) (step x)
  unfolding tally
  tally_unroll x h =
      ap (λ (n : ℕ). passed x + n)
      (further_same place_of (place_of x) end (λ y. tally step passed (end - place_of x) y) (λ y. tally step passed (suc (end - place_of y)) y) (step x)
      (λ y l g. tally_enough (end - place_of x) (suc (end - place_of y)) y g (omega arith) (omega arith)) (good x h))

-- One element.

pub passed_fault : (s : List ℕ) (syntax : Syntax) (room end at floor : ℕ) {n : ℕ} → head_at s syntax end at floor ≡ Fault n → element_passed s syntax room end at floor ≡ 0
unfolding element_passed
passed_fault s syntax zero end at floor e = rw e
passed_fault s syntax (suc room) end at floor e = rw e

pub passed_value : (s : List ℕ) (syntax : Syntax) (room end at floor : ℕ) {part : Part} → head_at s syntax end at floor ≡ Value part → element_passed s syntax room end at floor ≡ 1
unfolding element_passed
passed_value s syntax zero end at floor e = rw e
passed_value s syntax (suc room) end at floor e = rw e

pub passed_full : (s : List ℕ) (syntax : Syntax) (room end at floor : ℕ) {inside : Inside} → room ≡ 0 → head_at s syntax end at floor ≡ Nest inside → element_passed s syntax room end at floor ≡ 0
unfolding element_passed
passed_full s syntax zero end at floor z e = rw e
passed_full s syntax (suc room) end at floor z e = absurd (omega arith)

pub passed_nest : (s : List ℕ) (syntax : Syntax) (room end at floor : ℕ) {inside : Inside} → (room ≡ 0 → ⊥) → head_at s syntax end at floor ≡ Nest inside → element_passed s syntax room end at floor ≡ suc (items_passed (element_at s syntax (room - 1)) (element_passed s syntax (room - 1)) s (room - 1) inside inside.from)
unfolding element_passed
passed_nest s syntax zero end at floor z e = absurd (z refl)
passed_nest s syntax (suc room) end at floor z e = rw (e, sub-one (suc room))

-- One item.

module _ (s : List ℕ) (syntax : Syntax) (room end at : ℕ) where
  pub passed_item_fault : {n : ℕ} → item_head_at s end at ≡ Fault n → item_passed_at s syntax room end at ≡ 0
  unfolding item_passed_at item_passed
  passed_item_fault e = rw e

  pub passed_item_value : {part : Part} → item_head_at s end at ≡ Value part → item_passed_at s syntax room end at ≡ 1
  unfolding item_passed_at item_passed
  passed_item_value e = rw e

  pub passed_item_nest : {inside : Inside} → item_head_at s end at ≡ Nest inside → item_passed_at s syntax room end at ≡ passed_in s (scope_of syntax room inside) + 1
  unfolding item_passed_at item_passed passed_in
  passed_item_nest e = rw e (omega arith)

-- One step of each walk.

module _ (s : List ℕ) (syntax : Syntax) (room : ℕ) (inside : Inside) (at : ℕ) (h : at ≤ inside.stop) where
  passed_items_on : items_passed (element_at s syntax room) (element_passed s syntax room) s room inside at ≡ unless_closed inside (close_at s sequence_end inside at) (item_passed_at s syntax room inside.stop at) + further (λ y. items_passed (element_at s syntax room) (element_passed s syntax room) s room inside y) (or_else (close_at s sequence_end inside at) (onward (item_at s syntax room inside.stop at) (λ q. q)))
  unfolding item_step item_at items_passed item_passed_at
  passed_items_on = tally_unroll (λ x. x) inside.stop (item_step (element_at s syntax room) s room inside) _ (item_step_in (element_at s syntax room) (element_in_lem s syntax room) s room inside) at h

  pub passed_items_done : {q : ℕ} → close_at s sequence_end inside at ≡ Some q → items_passed (element_at s syntax room) (element_passed s syntax room) s room inside at ≡ delimiters inside
  passed_items_done k = passed_items_on ∙ rw k (omega arith)

  pub passed_items_refused : {stop : Stop} → close_at s sequence_end inside at ≡ None → item_at s syntax room inside.stop at ≡ Err stop → items_passed (element_at s syntax room) (element_passed s syntax room) s room inside at ≡ item_passed_at s syntax room inside.stop at
  passed_items_refused k e = passed_items_on ∙ rw (k, e) (omega arith)

  pub passed_items_more : {q : ℕ} → close_at s sequence_end inside at ≡ None → item_at s syntax room inside.stop at ≡ Ok q → items_passed (element_at s syntax room) (element_passed s syntax room) s room inside at ≡ item_passed_at s syntax room inside.stop at + items_passed (element_at s syntax room) (element_passed s syntax room) s room inside q
  passed_items_more k e = passed_items_on ∙ rw (k, e)

  module _ (floor : ℕ) where
    passed_list_on : list_passed (element_at s syntax room) (element_passed s syntax room) s inside (record { at = at; floor = floor }) ≡ unless_closed inside (close_at s item_end inside at) (element_passed s syntax room inside.stop at floor) + further (λ y. list_passed (element_at s syntax room) (element_passed s syntax room) s inside y) (or_else (close_at s item_end inside at) (onward (element_at s syntax room inside.stop at floor) (λ q. record { at = q; floor = tag_at s at + 1 })))
    unfolding list_step list_passed
    passed_list_on = tally_unroll place inside.stop (list_step (element_at s syntax room) s inside) _ (list_step_in (element_at s syntax room) (element_in_lem s syntax room) s room inside) (record { at = at; floor = floor }) h

    pub passed_list_done : {q : ℕ} → close_at s item_end inside at ≡ Some q → list_passed (element_at s syntax room) (element_passed s syntax room) s inside (record { at = at; floor = floor }) ≡ delimiters inside
    passed_list_done k = passed_list_on ∙ rw k (omega arith)

    pub passed_list_refused : {stop : Stop} → close_at s item_end inside at ≡ None → element_at s syntax room inside.stop at floor ≡ Err stop → list_passed (element_at s syntax room) (element_passed s syntax room) s inside (record { at = at; floor = floor }) ≡ element_passed s syntax room inside.stop at floor
    passed_list_refused k e = passed_list_on ∙ rw (k, e) (omega arith)

    pub passed_list_more : {q : ℕ} → close_at s item_end inside at ≡ None → element_at s syntax room inside.stop at floor ≡ Ok q → list_passed (element_at s syntax room) (element_passed s syntax room) s inside (record { at = at; floor = floor }) ≡ element_passed s syntax room inside.stop at floor + list_passed (element_at s syntax room) (element_passed s syntax room) s inside (record { at = q; floor = tag_at s at + 1 })
    passed_list_more k e = passed_list_on ∙ rw (k, e)
