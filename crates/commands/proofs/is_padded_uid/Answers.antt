use mathlib.Core.Path.{◌∙◌}
use native.Mathlib.Numerals.{unary_clauses}
use Rattle.commands.proofs.Laws.{uid_of_lem}
use Rattle.commands.proofs.is_padded_uid.Goals as goal

pub returns : goal.returns
returns c = simp unary_clauses at c.is_uid.ensures ∙ uid_of_lem _ _ c.unpadded_length-n.ensures.0
