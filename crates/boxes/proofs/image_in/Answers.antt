use mathlib.Core.Path.{sym, ap, ◌∙◌}
use Rattle.rules.specs.Attributes.{listing_of, image_of, image_found, image_in}
use Rattle.boxes.proofs.Laws.{sequence_in, sequence_meant}
use Rattle.boxes.proofs.image_in.Goals as goal

pub items_in-requires : goal.items_in-requires
items_in-requires c =
    sequence_in _ _ _ _ (sym c.requires ∙ c.in-Sequence.is)

pub returns-in-Missing : goal.returns-in-Missing
unfolding image_in
returns-in-Missing c =
    (sym (ap (image_found (listing_of c.args.d.now c.args.syntax)) (sym c.requires ∙ c.in-Missing.is)), tt)

pub returns-in-Value : goal.returns-in-Value
unfolding image_in
returns-in-Value c =
    (sym (ap (image_found (listing_of c.args.d.now c.args.syntax)) (sym c.requires ∙ c.in-Value.is)), tt)

pub returns-in-Sequence : goal.returns-in-Sequence
returns-in-Sequence c =
    sequence_meant _ _ _ _ (sym c.requires ∙ c.in-Sequence.is) (c.image_of.ensures ∙ ap image_of c.items_in.ensures)
