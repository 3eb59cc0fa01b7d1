use Rattle.std.proofs.Common.{◌≡◌, ◌≤◌, ◌-◌, suc, ◌+◌, ◌*◌}
use Rattle.elements.specs.Reader.{element_at, element_in, list_at, list_from, items_from}
use Rattle.elements.specs.Passed.{list_passed, items_passed, element_passed, passes_in, passed_in}
use Rattle.elements.proofs.+element_item_list.Given as goal

abbrev pub decreases-element : goal.decreases-element
decreases-element l = 3 * l.room + 1

abbrev pub decreases-item : goal.decreases-item
decreases-item l = 3 * l.room + 3

abbrev pub decreases-list : goal.decreases-list
decreases-list l = 3 * l.scope.room + 2

-- the loop over the items: what they give and pass is what is left gives, and what was passed and is left
abbrev pub invariant-element-loop-q : goal.invariant-element-loop-q
invariant-element-loop-q l =
    (l.p ≤ l.inside.stop) × (l.inside.stop ≤ l.end) × (8 * l.passed ≤ l.p)
    × (items_from (element_at l.s l.syntax (l.room - 1)) l.s (l.room - 1) l.inside l.inside.from ≡ items_from (element_at l.s l.syntax (l.room - 1)) l.s (l.room - 1) l.inside l.p)
    × (suc (items_passed (element_at l.s l.syntax (l.room - 1)) (element_passed l.s l.syntax (l.room - 1)) l.s (l.room - 1) l.inside l.inside.from) ≡ l.passed + items_passed (element_at l.s l.syntax (l.room - 1)) (element_passed l.s l.syntax (l.room - 1)) l.s (l.room - 1) l.inside l.p)

abbrev pub decreases-element-loop-q : goal.decreases-element-loop-q
decreases-element-loop-q l = l.inside.stop - l.p

-- the loop over the elements, as that over the items
abbrev pub invariant-list-loop-q : goal.invariant-list-loop-q
invariant-list-loop-q l =
    (l.p ≤ l.scope.inside.stop) × (8 * l.passed ≤ l.p)
    × (list_at l.s l.scope ≡ list_from (element_in l.s l.scope) l.s l.scope.inside (record { at = l.p; floor = l.floor }))
    × (passed_in l.s l.scope ≡ l.passed + list_passed (element_in l.s l.scope) (passes_in l.s l.scope) l.s l.scope.inside (record { at = l.p; floor = l.floor }))

abbrev pub decreases-list-loop-q : goal.decreases-list-loop-q
decreases-list-loop-q l = l.scope.inside.stop - l.p
