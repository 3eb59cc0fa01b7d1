use mathlib.Core.Path.{sym, ap, ◌∙◌}
use mathlib.Core.Bool as code
use mathlib.Core.Bool.{Bool}
use Rattle.choice.proofs.Picks.{nots}
use Rattle.rules.specs.Layout.{film_format}
use Rattle.distinct.specs.Apart.{serials, box_serials}
use Rattle.distinct.proofs.Told.{film_told, boxes_told, taken_own, free_own}
use Rattle.distinct.proofs.free_of_film.Goals as goal

pub returns-then-not-overlapping : goal.returns-then-not-overlapping
returns-then-not-overlapping c =
    let b = c.args.b.now in
    let p = c.args.p in
    let own = film_told b p _ _ c.made_at-own.ensures.0 c.own_count.ensures.0 in
    let boxes = boxes_told (film_format.read b p) _ _ c.first_at.ensures.0 c.box_count.ensures.0 in
    nots _ ∙ free_own (film_format.read b p) _ _ own boxes (serials c.args.first c.args.count) _ (sym c.overlapping.ensures ∙ c.if-not-overlapping.true) (sym c.overlapping-then-not-overlapping.ensures)

pub returns-else-not-overlapping : goal.returns-else-not-overlapping
returns-else-not-overlapping c =
    let b = c.args.b.now in
    let p = c.args.p in
    let own = film_told b p _ _ c.made_at-own.ensures.0 c.own_count.ensures.0 in
    ap (λ (t : Bool). code.not t) c.if-not-overlapping.false
    ∙ taken_own (film_format.read b p) _ (box_serials (film_format.read b p)) own (serials c.args.first c.args.count) (sym c.overlapping.ensures ∙ c.if-not-overlapping.false)
