use mathlib.Core.Path.{sym, ap, ◌∙◌}
use native.Mathlib.Omega.{arith}
use Rattle.elements.specs.Find.{only}
use Rattle.elements.proofs.Laws.{items_none, items_one, items_several}
use Rattle.finding.proofs.items_in.Goals as goal

pub returns-in-0 : goal.returns-in-0
returns-in-0 c = sym (items_none _ _ (sym c.count_items.ensures ∙ c.in-0.is))

pub returns-in-1 : goal.returns-in-1
returns-in-1 c =
    c.only_list.ensures ∙ ap only c.item_head.ensures
    ∙ sym (items_one _ _ c.requires.0 (sym c.count_items.ensures ∙ c.in-1.is))

pub returns-in_default : goal.returns-in_default
returns-in_default c = sym (items_several _ _ _ c.count_items.ensures (λ e. omega arith) (λ e. omega arith))
