use mathlib.Core.Path.{sym, ◌∙◌}
use Rattle.rules.specs.Layout.{film_format}
use Rattle.distinct.proofs.Told.{film_told, boxes_told, own_among, own_taken, own_apart}
use Rattle.distinct.proofs.film_apart.Goals as goal

pub returns-then-overlapping : goal.returns-then-overlapping
returns-then-overlapping c =
    let b = c.args.b.now in
    let p = c.args.p in
    let own = film_told b p _ _ c.made_at-own.ensures.0 c.own_count-owned.ensures.0 in
    let boxes = boxes_told (film_format.read b p) _ _ c.first_at-first.ensures.0 c.box_count-count.ensures.0 in
    own_among (film_format.read b p) _ _ own boxes _ (sym c.overlapping.ensures ∙ c.if-overlapping.true)

pub returns-then-not-serials_free : goal.returns-then-not-serials_free
returns-then-not-serials_free c =
    let b = c.args.b.now in
    let p = c.args.p in
    let own = film_told b p _ _ c.made_at-own.ensures.0 c.own_count-owned.ensures.0 in
    let boxes = boxes_told (film_format.read b p) _ _ c.first_at-first.ensures.0 c.box_count-count.ensures.0 in
    own_taken (film_format.read b p) _ _ own boxes _ (sym c.overlapping.ensures ∙ c.if-overlapping.false) (sym c.serials_free.ensures ∙ c.if-not-serials_free.true)

pub returns : goal.returns
returns c =
    let b = c.args.b.now in
    let p = c.args.p in
    let own = film_told b p _ _ c.made_at-own.ensures.0 c.own_count-owned.ensures.0 in
    let boxes = boxes_told (film_format.read b p) _ _ c.first_at-first.ensures.0 c.box_count-count.ensures.0 in
    own_apart (film_format.read b p) _ _ own boxes _ (sym c.overlapping.ensures ∙ c.if-overlapping.false) _ (sym c.serials_free.ensures ∙ c.if-not-serials_free.false) c.serials_free-2.ensures
