use mathlib.Core.Path.{sym, ◌∙◌}
use Rattle.commands.proofs.WellFormed.{not_whole, not_told, not_numbered, asks, nothing_told}
use Rattle.commands.proofs.said.Goals as goal
use Rattle.commands.proofs.said.Goals.{then-not-length_told-via-then-not-length_told, then-not-length_told-via-else-not-length_told+then-not-has_numbers}

pub returns-in_default : goal.returns-in_default
returns-in_default c = nothing_told c.unreadable.ensures (not_whole _ c.in_default.ensures)

pub returns-then-not-length_told : goal.returns-then-not-length_told
returns-then-not-length_told c =
    let e = c.unreadable-then-not-length_told.ensures in
    elim c.then-not-length_told.branch [
      | then-not-length_told-via-then-not-length_told w ↦ nothing_told e (not_told _ (sym c.length_told.ensures ∙ w.if-not-length_told.true))
      | then-not-length_told-via-else-not-length_told+then-not-has_numbers w ↦ nothing_told e (not_numbered _ (sym w.has_numbers.ensures ∙ w.if-not-has_numbers.true))
    ]

pub returns : goal.returns
returns c = (
  c.request.ensures
      ∙ asks _ c.in-Some.ensures.0 (sym c.length_told.ensures ∙ c.if-not-length_told.false) (sym c.has_numbers.ensures ∙ c.if-not-has_numbers.false),
  λ r. c.has_data.ensures,
)
