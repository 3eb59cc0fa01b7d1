use mathlib.Core.Path.{sym, ap, ◌∙◌}
use Rattle.rules.specs.Commands.{understood}
use Rattle.answering.proofs.Uids.{known_uids}
use Rattle.answering.proofs.Laws.{unreadable_left, unknown_left, known_left}
use Rattle.answering.proofs.asked.Goals as goal

pub known-requires : goal.known-requires
known-requires c =
    (c.requires.0, c.requires.1, c.requires.2, known_uids _ _ (ap understood (sym c.command_held.ensures) ∙ sym c.understood.ensures ∙ c.in-Known.is), c.requires.3)

pub returns-in-Unreadable : goal.returns-in-Unreadable
returns-in-Unreadable c =
    unreadable_left _ _ _ (ap understood (sym c.command_held.ensures) ∙ sym c.understood.ensures ∙ c.in-Unreadable.is) _ _ _ _ _ _ _ c.unknown.ensures

pub returns-in-Unknown : goal.returns-in-Unknown
returns-in-Unknown c =
    unknown_left _ _ _ _ _ (ap understood (sym c.command_held.ensures) ∙ sym c.understood.ensures ∙ c.in-Unknown.is) _ _ _ _ _ _ _ c.unknown-in-Unknown.ensures

pub returns-in-Known : goal.returns-in-Known
returns-in-Known c =
    known_left _ _ _ _ (ap understood (sym c.command_held.ensures) ∙ sym c.understood.ensures ∙ c.in-Known.is) _ _ _ _ _ _ _ _ c.known.ensures
