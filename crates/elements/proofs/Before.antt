-- What stands before the place where a reading stopped reads as it did: the same bytes with another tail, no shorter, are refused there or later, or read.
-- Assumes nothing.
use mathlib.Core.Path.{◌≡◌, refl, ap, subst}
use mathlib.Core.Bool.{Bool, true, false}
use mathlib.Core.List.{List}
use Prim.Native.Nat.{ℕ, zero, suc, ◌+◌, ◌-◌, ◌≤◌, ◌<◌}
use native.Mathlib.Omega.{arith}
use lib.Dec.{ltb}
use lib.ListN.{length, take}
use borrow.Author.Tests.{ltb-true, ltb-false}
use Rattle.std.specs.Prelude.{Option, Some, None, Result, Ok, Err}
use Rattle.choice.proofs.Picks.{pick_cases}
use Rattle.headers.specs.declared.Syntax.{Syntax}
use Rattle.headers.specs.declared.Inside.{Inside}
use Rattle.headers.specs.declared.Head.{Head}
use Rattle.headers.specs.declared.Head.TheVariants.{Fault, Value, Nest}
use Rattle.headers.specs.Header.{head_at, item_head_at, close_at}
use Rattle.headers.proofs.Within.{Fits, HeadIn, head_in, item_head_in}
use Rattle.headers.proofs.Before.{Agree, agree_take, tag_same, widened, HeadBefore, head_before, item_head_before, InsideBefore, CloseBefore, close_before}
use Rattle.elements.specs.declared.Stop.{Stop}
use Rattle.elements.specs.Walk.{Next, again, done, follow, onward, walk}
use Rattle.elements.specs.Reader.{most_nested, item_end, sequence_end, Elem, behind, or_else, Mark, start, list_step, list_from, item_with, item_step, items_from, element_at, list_at, whole, data_set}
use Rattle.elements.proofs.Within.{ReadIn, NextIn}
use Rattle.elements.proofs.Grammar.{place, ElemIn, element_in_lem, item_in, list_step_in, item_step_in}
use Rattle.elements.proofs.Stops.{stop_within}
use Rattle.elements.proofs.Beyond.{ReadsTo, StepsTo, Passes, nearer, passes_to, follow_to, walk_to, ElemTo, list_step_to, list_to, item_to, item_step_to, items_to, element_to}

by_place : (P : Type 0) (a b : ℕ) → (a < b → P) → (b ≤ a → P) → P
by_place P a b f g = by (ltb a b) refl
  where
    by : (t : Bool) → ltb a b ≡ t → P
    by true e = f (ltb-true a b e)
    by false e = g (ltb-false a b e)

-- What one reading tells of another, of bytes that agree with its own below a place:
-- what it read below the place the other reads too, and where it ended at the place the other comes so far.

abbrev ReadBefore : ℕ → Result ℕ Stop → Result ℕ Stop → Type 0
ReadBefore p (Ok q) r = (q < p → r ≡ Ok q) × (q ≡ p → ReadsTo p r)
ReadBefore p (Err stop) r = stop.place ≡ p → ReadsTo p r

abbrev StepBefore : {S : Type 0} → (S → ℕ) → ℕ → Next S → Next S → Type 0
StepBefore place_of p (again y) n = (place_of y < p → n ≡ again y) × (place_of y ≡ p → StepsTo place_of p n)
StepBefore place_of p (done (Ok q)) n = (q < p → n ≡ done (Ok q)) × (q ≡ p → StepsTo place_of p n)
StepBefore place_of p (done (Err stop)) n = stop.place ≡ p → StepsTo place_of p n

-- both begin at the place or behind it
read_beyond : (p at : ℕ) (r r' : Result ℕ Stop) → p ≤ at → ReadsTo at r → ReadsTo at r' → ReadBefore p r r'
read_beyond p at (Ok q) r' l h g = (λ b. absurd (omega arith), λ e. nearer p at r' l g)
read_beyond p at (Err stop) r' l h g = λ e. nearer p at r' l g

steps_nearer : {S : Type 0} (place_of : S → ℕ) (p at : ℕ) (n : Next S) → p ≤ at → StepsTo place_of at n → StepsTo place_of p n
steps_nearer place_of p at (again y) l g = omega arith
steps_nearer place_of p at (done r) l g = nearer p at r l g

step_beyond : {S : Type 0} (place_of : S → ℕ) (p at : ℕ) (n n' : Next S) → p ≤ at → StepsTo place_of at n → StepsTo place_of at n' → StepBefore place_of p n n'
step_beyond place_of p at (again y) n' l h g = (λ b. absurd (omega arith), λ e. steps_nearer place_of p at n' l g)
step_beyond place_of p at (done (Ok q)) n' l h g = (λ b. absurd (omega arith), λ e. steps_nearer place_of p at n' l g)
step_beyond place_of p at (done (Err stop)) n' l h g = λ e. steps_nearer place_of p at n' l g

-- a reading that begins above the place tells nothing
read_below : (low p : ℕ) (r r' : Result ℕ Stop) → ReadsTo low r → (low ≤ p → ReadBefore p r r') → ReadBefore p r r'
read_below low p (Ok q) r' h f = (λ l. (f (omega arith)).0 l, λ e. (f (omega arith)).1 e)
read_below low p (Err stop) r' h f = λ e. f (omega arith) e

-- Walks.

follow_before : {S : Type 0} (place_of : S → ℕ) (low end p : ℕ) (rest rest' : S → Result ℕ Stop) (n n' : Next S) → NextIn place_of low end n
    → ((y : S) → low < place_of y → place_of y ≤ end → ReadsTo (place_of y) (rest y))
    → ((y : S) → low < place_of y → place_of y ≤ end → ReadBefore p (rest y) (rest' y))
    → (StepsTo place_of p n' → ReadsTo p (follow rest' n'))
    → StepBefore place_of p n n' → ReadBefore p (follow rest n) (follow rest' n')
follow_before place_of low end p rest rest' (again y) n' h far same to g =
    let from = far y h.0 h.1 in
    read_below (place_of y) p (rest y) (follow rest' n') from
    (λ l. by_place (ReadBefore p (rest y) (follow rest' n')) (place_of y) p
    (λ b. rw (g.0 b) (same y h.0 h.1))
    (λ b. read_beyond p p (rest y) (follow rest' n') (omega arith) (nearer p (place_of y) (rest y) b from) (to (g.1 (omega arith)))))
follow_before place_of low end p rest rest' (done (Ok q)) n' h far same to g = (λ l. ap (follow rest') (g.0 l), λ e. to (g.1 e))
follow_before place_of low end p rest rest' (done (Err stop)) n' h far same to g = λ e. to (g e)

module _ {S : Type 0} (place_of : S → ℕ) (p end end' : ℕ) (wider : end ≤ end') (step step' : S → Next S)
    (good : (x : S) → place_of x ≤ end → NextIn place_of (place_of x) end (step x))
    (good' : (x : S) → place_of x ≤ end' → NextIn place_of (place_of x) end' (step' x))
    (far : (x : S) → place_of x ≤ end → StepsTo place_of (place_of x) (step x))
    (far' : (x : S) → place_of x ≤ end' → StepsTo place_of (place_of x) (step' x))
    (same : (x : S) → place_of x ≤ end → StepBefore place_of p (step x) (step' x)) where
  walk_before : (fuel fuel' : ℕ) (x : S) → place_of x ≤ end → end - place_of x < fuel → end' - place_of x < fuel' → ReadBefore p (walk step fuel x) (walk step' fuel' x)
  unfolding walk
  walk_before zero fuel' x h l l' = absurd (omega arith)
  walk_before (suc fuel) zero x h l l' = absurd (omega arith)
  walk_before (suc fuel) (suc fuel') x h l l' =
      follow_before place_of (place_of x) end p (λ y. walk step fuel y) (λ y. walk step' fuel' y) (step x) (step' x) (good x h)
      (λ y b g. walk_to place_of end step good far fuel y g (omega arith))
      (λ y b g. walk_before fuel fuel' y g (omega arith) (omega arith))
      (follow_to place_of (place_of x) end' p (λ y. walk step' fuel' y) (step' x) (good' x (omega arith)) (λ y b g. walk_to place_of end' step' good' far' fuel' y g (omega arith)))
      (same x h)

onward_to : {S : Type 0} (place_of : S → ℕ) (p : ℕ) (r : Result ℕ Stop) (on : ℕ → S) → ((q : ℕ) → place_of (on q) ≡ q) → ReadsTo p r → StepsTo place_of p (onward r on)
onward_to place_of p (Ok q) on e g = omega (arith, e q)
onward_to place_of p (Err stop) on e g = g

step_before : {S : Type 0} (place_of : S → ℕ) (p at end : ℕ) (k k' : Option ℕ) (r r' : Result ℕ Stop) (on on' : ℕ → S) → ((q : ℕ) → place_of (on q) ≡ q) → ((q : ℕ) → place_of (on' q) ≡ q)
    → (at + 8 ≤ p → (q : ℕ) → on' q ≡ on q) → at < p → CloseBefore p at end k k' → ReadIn (at + 8) end r → Passes at r → ReadBefore p r r'
    → StepBefore place_of p (or_else k (onward r on)) (or_else k' (onward r' on'))
step_before place_of p at end (Some q) k' r r' on on' e e' same h c i far g = (λ l. rw (c (omega arith)), λ z. rw (c (omega arith)) (omega arith))
step_before place_of p at end None k' (Ok q) r' on on' e e' same h c i far g =
    let z = e q in (
      λ l. rw (c (omega arith) (omega arith), g.0 (omega arith), same (omega arith) q),
      λ y. rw (c (omega arith) (omega arith)) (onward_to place_of p r' on' e' (g.1 (omega arith))),
    )
step_before place_of p at end None k' (Err stop) r' on on' e e' same h c i far g =
    λ y. let b = far.2 (omega arith) in rw (c (omega arith) (omega arith)) (onward_to place_of p r' on' e' (g y))

-- Headers.

widened_before : (p end end' : ℕ) (inside : Inside) → inside.stop ≤ end → end ≤ end' → InsideBefore p inside (widened end' inside)
widened_before p end end' inside h w = (refl, pick_cases (λ (n : ℕ). inside.stop ≤ n) inside.loose end' inside.stop (λ e. omega arith) (λ e. omega arith), λ e l. rw e)

behind_before : (held held' : Inside → Result ℕ Stop) (room p at end end' : ℕ) (d d' : Head) → at < p → HeadIn (at + 8) end d → HeadBefore p end' d d'
    → ((inside : Inside) → Fits (at + 8) inside.from inside.stop end → (inside.from ≤ p → d' ≡ Nest (widened end' inside)) → ReadBefore p (held inside) (behind held' room at d'))
    → ReadBefore p (behind held room at d) (behind held' room at d')
behind_before held held' room p at end end' (Fault n) d' l h g f = λ e. absurd (omega arith)
behind_before held held' room p at end end' (Value part) d' l h g f = (λ b. rw (g (omega arith)), λ e. rw (g (omega arith)) (omega arith))
behind_before held held' room p at end end' (Nest inside) d' l h g f = f inside h g

nest_before : (held held' : Inside → Result ℕ Stop) (room p at end' : ℕ) (inside : Inside) (d' : Head) → ReadsTo inside.from (held inside) → ReadBefore p (held inside) (held' (widened end' inside)) → (inside.from ≤ p → d' ≡ Nest (widened end' inside)) → ReadBefore p (held inside) (behind held' room at d')
nest_before held held' room p at end' inside d' h f g = read_below inside.from p (held inside) (behind held' room at d') h (λ l. rw (g l) f)

-- The grammar.

-- readers of elements of the two lists
ElemBefore : ℕ → Elem → Elem → Type 0
ElemBefore p element element' = (end end' at floor : ℕ) → at ≤ end → end ≤ end' → ReadBefore p (element end at floor) (element' end' at floor)

module _ (p : ℕ) (s t : List ℕ) (agree : Agree p s t) where
  module _ (room : ℕ) (element element' : Elem) (good : ElemIn element) (good' : ElemIn element') (far : ElemTo element) (far' : ElemTo element') (same : ElemBefore p element element') where
    list_step_before : (inside inside' : Inside) → InsideBefore p inside inside' → (m : Mark) → m.at ≤ inside.stop → StepBefore place p (list_step element s inside m) (list_step element' t inside' m)
    unfolding list_step ElemIn ElemTo ElemBefore
    list_step_before inside inside' w m h =
        by_place (StepBefore place p (list_step element s inside m) (list_step element' t inside' m)) m.at p
        (λ l. step_before place p m.at inside.stop (close_at s item_end inside m.at) (close_at t item_end inside' m.at)
        (element inside.stop m.at m.floor) (element' inside'.stop m.at m.floor) _ _ (λ q. refl) (λ q. refl)
        (λ b q. rw (tag_same p s t agree m.at b)) l (close_before p s t agree item_end inside inside' m.at l w)
        (good inside.stop m.at m.floor h) (far inside.stop m.at m.floor h) (same inside.stop inside'.stop m.at m.floor h w.1))
        (λ l. step_beyond place p m.at (list_step element s inside m) (list_step element' t inside' m) l
        (list_step_to element good far s room inside m h)
        (list_step_to element' good' far' t room inside' m (omega arith)))

    list_before : (inside inside' : Inside) → InsideBefore p inside inside' → (m : Mark) → m.at ≤ inside.stop → ReadBefore p (list_from element s inside m) (list_from element' t inside' m)
    unfolding list_from
    list_before inside inside' w m h =
        walk_before place p inside.stop inside'.stop w.1 (list_step element s inside) (list_step element' t inside')
        (list_step_in element good s room inside) (list_step_in element' good' t room inside')
        (list_step_to element good far s room inside) (list_step_to element' good' far' t room inside')
        (list_step_before inside inside' w) (suc (inside.stop - m.at)) (suc (inside'.stop - m.at)) m h (omega arith) (omega arith)

    item_before : (end end' at : ℕ) → at ≤ end → end ≤ end' → at < p → ReadBefore p (item_with element s room end at) (item_with element' t room end' at)
    unfolding item_with
    item_before end end' at h w l =
        behind_before _ _ room p at end end' (item_head_at s end at) (item_head_at t end' at) l (item_head_in s end at h) (item_head_before p s t agree end end' at w)
        (λ inside f g. nest_before (λ x. list_from element s x (start x)) (λ x. list_from element' t x (start x)) room p at end' inside (item_head_at t end' at)
        (list_to element good far s room inside (start inside) f.1.0)
        (list_before inside (widened end' inside) (widened_before p end end' inside f.1.1 w) (start inside) f.1.0) g)

    item_step_before : (inside inside' : Inside) → InsideBefore p inside inside' → (at : ℕ) → at ≤ inside.stop → StepBefore (λ x. x) p (item_step element s room inside at) (item_step element' t room inside' at)
    unfolding item_step
    item_step_before inside inside' w at h =
        by_place (StepBefore (λ x. x) p (item_step element s room inside at) (item_step element' t room inside' at)) at p
        (λ l. step_before (λ x. x) p at inside.stop (close_at s sequence_end inside at) (close_at t sequence_end inside' at)
        (item_with element s room inside.stop at) (item_with element' t room inside'.stop at) (λ q. q) (λ q. q) (λ q. refl) (λ q. refl)
        (λ b q. refl) l (close_before p s t agree sequence_end inside inside' at l w)
        (item_in element good s room inside.stop at h) (item_to element good far s room inside.stop at h) (item_before inside.stop inside'.stop at h w.1 l))
        (λ l. step_beyond (λ x. x) p at (item_step element s room inside at) (item_step element' t room inside' at) l
        (item_step_to element good far s room inside at h)
        (item_step_to element' good' far' t room inside' at (omega arith)))

    items_before : (inside inside' : Inside) → InsideBefore p inside inside' → (at : ℕ) → at ≤ inside.stop → ReadBefore p (items_from element s room inside at) (items_from element' t room inside' at)
    unfolding items_from
    items_before inside inside' w at h =
        walk_before (λ x. x) p inside.stop inside'.stop w.1 (item_step element s room inside) (item_step element' t room inside')
        (item_step_in element good s room inside) (item_step_in element' good' t room inside')
        (item_step_to element good far s room inside) (item_step_to element' good' far' t room inside')
        (item_step_before inside inside' w) (suc (inside.stop - at)) (suc (inside'.stop - at)) at h (omega arith) (omega arith)

  -- what is left to show of an element: that it begins below the place is given
  below_before : (syntax : Syntax) (room end end' at floor : ℕ) → at ≤ end → end ≤ end' → (at < p → ReadBefore p (element_at s syntax room end at floor) (element_at t syntax room end' at floor)) → ReadBefore p (element_at s syntax room end at floor) (element_at t syntax room end' at floor)
  unfolding ElemTo
  below_before syntax room end end' at floor h w f =
      by_place (ReadBefore p (element_at s syntax room end at floor) (element_at t syntax room end' at floor)) at p f
      (λ l. read_beyond p at (element_at s syntax room end at floor) (element_at t syntax room end' at floor) l
      (passes_to at (element_at s syntax room end at floor) (element_to s syntax room end at floor h))
      (passes_to at (element_at t syntax room end' at floor) (element_to t syntax room end' at floor (omega arith))))

  element_before : (syntax : Syntax) (room : ℕ) → ElemBefore p (element_at s syntax room) (element_at t syntax room)
  unfolding element_at ElemBefore
  element_before syntax zero end end' at floor h w =
      below_before syntax zero end end' at floor h w
      (λ l. behind_before _ _ zero p at end end' (head_at s syntax end at floor) (head_at t syntax end' at floor) l (head_in s syntax end at floor h) (head_before p s t agree syntax end end' at floor w)
      (λ inside f g e. absurd (omega arith)))
  element_before syntax (suc room) end end' at floor h w =
      below_before syntax (suc room) end end' at floor h w
      (λ l. behind_before _ _ (suc room) p at end end' (head_at s syntax end at floor) (head_at t syntax end' at floor) l (head_in s syntax end at floor h) (head_before p s t agree syntax end end' at floor w)
      (λ inside f g. nest_before (λ x. items_from (element_at s syntax room) s room x x.from) (λ x. items_from (element_at t syntax room) t room x x.from) (suc room) p at end' inside (head_at t syntax end' at floor)
      (items_to (element_at s syntax room) (element_in_lem s syntax room) (element_to s syntax room) s room inside inside.from f.1.0)
      (items_before room (element_at s syntax room) (element_at t syntax room) (element_in_lem s syntax room) (element_in_lem t syntax room) (element_to s syntax room) (element_to t syntax room) (element_before syntax room) inside (widened end' inside) (widened_before p end end' inside f.1.1 w) inside.from f.1.0) g))

pub stops_no_earlier : (s t : List ℕ) (syntax : Syntax) {stop : Stop} → data_set s syntax ≡ Err stop → length s ≤ length t → take stop.place t ≡ take stop.place s → ReadsTo stop.place (data_set t syntax)
unfolding data_set list_at
stops_no_earlier s t syntax {stop} e h same =
    let p = stop.place in
    let agree = agree_take p s t same in
    let within = stop_within s syntax e in
    subst (λ (r : Result ℕ Stop). ReadBefore p r (data_set t syntax)) e
    (list_before p s t agree most_nested (element_at s syntax most_nested) (element_at t syntax most_nested) (element_in_lem s syntax most_nested) (element_in_lem t syntax most_nested) (element_to s syntax most_nested) (element_to t syntax most_nested) (element_before p s t agree syntax most_nested)
    (whole s) (whole t) (refl, h, λ z l. absurd (omega arith)) (start (whole s)) (omega arith))
    refl
