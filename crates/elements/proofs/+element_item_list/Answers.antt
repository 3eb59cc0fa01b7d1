use Rattle.std.proofs.Common.{ℕ, ◌+◌, refl, sym, ap, ◌∙◌, arith, rules}
use Rattle.elements.specs.Reader.{list_at}
use Rattle.elements.specs.Passed.{passed_in}
use Rattle.elements.proofs.Laws.{element_past, item_past, head_nest, item_head_nest, element_fault, element_value, element_full, element_nest, item_fault, item_value, item_nest, items_done, items_refused, items_more, list_done, list_refused, list_more}
use Rattle.elements.proofs.Passed.{passed_fault, passed_value, passed_full, passed_nest, passed_item_fault, passed_item_value, passed_item_nest, passed_items_done, passed_items_refused, passed_items_more, passed_list_done, passed_list_refused, passed_list_more}
use Rattle.elements.proofs.Ceiling.{element_passed_past, element_ceiling, item_passed_past, item_ceiling, list_ceiling}
use Rattle.elements.proofs.+element_item_list.Goals as goal

pub element-returns-then-room-eq0 : goal.element-returns-then-room-eq0
element-returns-then-room-eq0 t c =
    let head = sym c.in-Nest.ensures in
    let f = c.refused-then-room-eq0.ensures in
    (f.0 ∙ sym (element_full _ _ _ _ _ _ c.if-room-eq0.true head), f.1 ∙ sym (passed_full _ _ _ _ _ _ c.if-room-eq0.true head))

pub element-loop-q-init : goal.element-loop-q-init
element-loop-q-init t c =
    let n = head_nest _ _ _ _ _ c.requires.0 (sym c.in-Nest.ensures) in
    (n.1.0, omega arith, omega arith, refl, omega arith)

pub element-returns-in-Some : goal.element-returns-in-Some
element-returns-in-Some t c =
    let o = c.loop-q in
    let head = sym c.in-Nest.ensures in
    let k = sym c.in-Some.ensures in
    (sym (element_nest _ _ _ _ _ _ c.if-room-eq0.false head ∙ o.invariant.3 ∙ items_done _ _ _ _ _ o.invariant.0 k), ap (λ (n : ℕ). o.passed + n) (c.delimiters.ensures.0 ∙ sym (passed_items_done _ _ _ _ _ o.invariant.0 k)) ∙ sym (passed_nest _ _ _ _ _ _ c.if-room-eq0.false head ∙ o.invariant.4))

pub element-overflow_add-passed : goal.element-overflow_add-passed
element-overflow_add-passed t c =
    let b = item_ceiling _ _ _ _ _ c.loop-q.invariant.0 c.item-part.ensures.1 in
    record { fits = omega arith }

pub element-loop-q-smaller : goal.element-loop-q-smaller
element-loop-q-smaller t c =
    let b = item_past _ _ _ c.loop-q.invariant.0 _ _ (sym c.item-part.ensures.0 ∙ c.in-Ok.is) in
    omega arith

pub element-loop-q-preserved : goal.element-loop-q-preserved
element-loop-q-preserved t c =
    let o = c.loop-q in
    let k = sym c.closing.ensures ∙ c.in_default.is in
    let e = sym c.item-part.ensures.0 ∙ c.in-Ok.is in
    let b = item_passed_past _ _ _ _ _ o.invariant.0 e in
    let n = passed_items_more _ _ _ _ _ o.invariant.0 k e in
    ((item_past _ _ _ o.invariant.0 _ _ e).1, o.invariant.1, omega (arith, c.item-part.ensures.1), o.invariant.3 ∙ items_more _ _ _ _ _ o.invariant.0 k e, omega (arith, c.item-part.ensures.1))

pub element-returns-in_default-read : goal.element-returns-in_default-read
element-returns-in_default-read t c =
    let o = c.loop-q in
    let head = sym c.in-Nest.ensures in
    let k = sym c.closing.ensures ∙ c.in_default.is in
    let e = sym c.item-part.ensures.0 ∙ c.in_default-read.is in
    (c.in_default-read.is ∙ sym (element_nest _ _ _ _ _ _ c.if-room-eq0.false head ∙ o.invariant.3 ∙ items_refused _ _ _ _ _ o.invariant.0 k e), ap (λ (n : ℕ). o.passed + n) (c.item-part.ensures.1 ∙ sym (passed_items_refused _ _ _ _ _ o.invariant.0 k e)) ∙ sym (passed_nest _ _ _ _ _ _ c.if-room-eq0.false head ∙ o.invariant.4))

pub element-returns-in-Fault : goal.element-returns-in-Fault
element-returns-in-Fault t c =
    let head = sym c.in-Fault.ensures in
    (c.refused.ensures.0 ∙ sym (element_fault _ _ _ _ _ _ head), c.refused.ensures.1 ∙ sym (passed_fault _ _ _ _ _ _ head))

pub element-returns-in-Value : goal.element-returns-in-Value
element-returns-in-Value t c =
    let head = sym c.in-Value.ensures in
    (sym (element_value _ _ _ _ _ _ head), sym (passed_value _ _ _ _ _ _ head))

pub item-list-held-requires : goal.item-list-held-requires
item-list-held-requires t c =
    let n = item_head_nest _ _ _ c.requires.0 (sym c.in-Nest.ensures) in
    (search rules, (n.1.0, omega arith))

pub item-overflow_add-result : goal.item-overflow_add-result
item-overflow_add-result t c =
    let n = item_head_nest _ _ _ c.requires.0 (sym c.in-Nest.ensures) in
    let b = list_ceiling _ _ n.1.0 c.list-held.ensures.1 in
    record { fits = omega arith }

pub item-returns-in-Fault : goal.item-returns-in-Fault
item-returns-in-Fault t c =
    let head = sym c.in-Fault.ensures in
    (c.refused.ensures.0 ∙ sym (item_fault _ _ _ _ _ head), c.refused.ensures.1 ∙ sym (passed_item_fault _ _ _ _ _ head))

pub item-returns-in-Value : goal.item-returns-in-Value
item-returns-in-Value t c =
    let head = sym c.in-Value.ensures in
    (sym (item_value _ _ _ _ _ head), sym (passed_item_value _ _ _ _ _ head))

pub item-returns-in-Nest : goal.item-returns-in-Nest
item-returns-in-Nest t c =
    let head = sym c.in-Nest.ensures in
    let held = c.list-held.ensures in
    (held.0 ∙ sym (item_nest _ _ _ _ _ head), ap (λ (n : ℕ). n + 1) held.1 ∙ sym (passed_item_nest _ _ _ _ _ head))

pub list-loop-q-init : goal.list-loop-q-init
unfolding list_at passed_in
list-loop-q-init t c = (c.requires.0, omega arith, refl, omega arith)

pub list-returns-in-Some : goal.list-returns-in-Some
list-returns-in-Some t c =
    let o = c.loop-q in
    let k = sym c.in-Some.ensures in
    (sym (o.invariant.2 ∙ list_done _ _ _ _ _ o.invariant.0 _ k), ap (λ (n : ℕ). o.passed + n) (c.delimiters.ensures.0 ∙ sym (passed_list_done _ _ _ _ _ o.invariant.0 _ k)) ∙ sym o.invariant.3)

pub list-overflow_add-passed : goal.list-overflow_add-passed
list-overflow_add-passed t c =
    let b = element_ceiling _ _ _ _ _ c.loop-q.invariant.0 _ c.element-part.ensures.1 in
    record { fits = omega arith }

pub list-tag_at-floor-requires : goal.list-tag_at-floor-requires
list-tag_at-floor-requires t c =
    let b = element_past _ _ _ _ _ c.loop-q.invariant.0 _ (sym c.element-part.ensures.0 ∙ c.in-Ok.is) in
    omega arith

pub list-loop-q-smaller : goal.list-loop-q-smaller
list-loop-q-smaller t c =
    let b = element_past _ _ _ _ _ c.loop-q.invariant.0 _ (sym c.element-part.ensures.0 ∙ c.in-Ok.is) in
    omega arith

pub list-loop-q-preserved : goal.list-loop-q-preserved
list-loop-q-preserved t c =
    let o = c.loop-q in
    let k = sym c.closing.ensures ∙ c.in_default.is in
    let e = sym c.element-part.ensures.0 ∙ c.in-Ok.is in
    let b = element_passed_past _ _ _ _ _ o.invariant.0 _ e in
    let n = passed_list_more _ _ _ _ _ o.invariant.0 _ k e in
    ((element_past _ _ _ _ _ o.invariant.0 _ e).1, omega (arith, c.element-part.ensures.1), rw c.tag_at-floor.ensures.0 (o.invariant.2 ∙ list_more _ _ _ _ _ o.invariant.0 _ k e), rw c.tag_at-floor.ensures.0 (omega (arith, c.element-part.ensures.1)))

pub list-returns-in_default-read : goal.list-returns-in_default-read
list-returns-in_default-read t c =
    let o = c.loop-q in
    let k = sym c.closing.ensures ∙ c.in_default.is in
    let e = sym c.element-part.ensures.0 ∙ c.in_default-read.is in
    (c.in_default-read.is ∙ sym (o.invariant.2 ∙ list_refused _ _ _ _ _ o.invariant.0 _ k e), ap (λ (n : ℕ). o.passed + n) (c.element-part.ensures.1 ∙ sym (passed_list_refused _ _ _ _ _ o.invariant.0 _ k e)) ∙ sym o.invariant.3)
