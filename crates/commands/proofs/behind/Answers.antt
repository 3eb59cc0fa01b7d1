use mathlib.Core.Path.{sym, ◌∙◌}
use Rattle.elements.proofs.Laws.{element_fault, element_value}
use Rattle.commands.proofs.behind.Goals as goal

pub returns-in-Fault : goal.returns-in-Fault
returns-in-Fault c = c.refused.ensures.0 ∙ sym (element_fault _ _ _ _ _ _ (sym c.requires.1 ∙ c.in-Fault.is))

pub returns-in-Value : goal.returns-in-Value
returns-in-Value c = sym (element_value _ _ _ _ _ _ (sym c.requires.1 ∙ c.in-Value.is))
