use mathlib.Core.Path.{ap, sym, ◌∙◌}
use lib.ListN.{take}
use Rattle.records.specs.Places.{core_in}
use Rattle.records.proofs.Parts.{core_numbers}
use Rattle.feeding.proofs.Response.{front_short, new_boxes_laid}
use Rattle.feeding.proofs.put_new_boxes.Goals as goal

pub put_film_boxes-requires : goal.put_film_boxes-requires
put_film_boxes-requires c =
    let n = (core_in c.args.b.now).numbers in
    let told = c.front.ensures ∙ ap (λ m. take m.used m.root) (c.read_at-numbers.ensures ∙ sym (core_numbers c.args.b.now)) in
    (c.requires.0, front_short n.root _ n.used 40 told c.requires.1, c.requires.2.0, c.requires.2.1)

pub returns : goal.returns
returns c =
    let told = c.front.ensures ∙ ap (λ m. take m.used m.root) (c.read_at-numbers.ensures ∙ sym (core_numbers c.args.b.now)) in
    new_boxes_laid (core_in c.args.b.now) c.args.boxes _ _ _ _ _ told c.syntax_in.ensures c.put_film_boxes.ensures
