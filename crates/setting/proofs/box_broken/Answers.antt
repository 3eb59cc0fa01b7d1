use Prim.Native.Nat.{◌<◌}
use mathlib.Core.Path.{refl, ap, ◌∙◌}
use borrow.Author.Tests.{eqb-false}
use Rattle.std.proofs.lemmas.Result.{err_from_is_err_and}
use Rattle.rules.specs.Bounds.{most_films}
use Rattle.rules.specs.Records.{box_count}
use Rattle.records.specs.Places.{core_in}
use Rattle.setting.proofs.InPlace.{film_place_lem, layout_read, picture_read}
use Rattle.verdicts.proofs.Plans.{status_some}
use Rattle.setting.proofs.Laws.{attribute_breaks, nothing_fills, picture_lacks, picture_given}
use borrow.Author.Rules.{rules}
use Rattle.setting.proofs.box_broken.Goals as goal

pub overflow_mul-i : goal.overflow_mul-i
overflow_mul-i c =
    let below : c.args.i < most_films = film_place_lem c.args.b.now c.requires.0 c.args.i c.requires.1 in
    search rules

pub overflow_add-i : goal.overflow_add-i
overflow_add-i c =
    let below : c.args.i < most_films = film_place_lem c.args.b.now c.requires.0 c.args.i c.requires.1 in
    search rules

pub overflow_add-i-2 : goal.overflow_add-i-2
overflow_add-i-2 c =
    let below : c.args.i < most_films = film_place_lem c.args.b.now c.requires.0 c.args.i c.requires.1 in
    search rules

pub box_count_at-count-requires : goal.box_count_at-count-requires
box_count_at-count-requires c =
    let below : c.args.i < most_films = film_place_lem c.args.b.now c.requires.0 c.args.i c.requires.1 in
    search rules

pub box_broken-requires : goal.box_broken-requires
box_broken-requires c = (c.requires.2, c.requires.3)

pub returns-in_err-box_broken : goal.returns-in_err-box_broken
returns-in_err-box_broken c =
    let a = c.args in
    let failure = c.in_err-box_broken.field-0.0 in
    let p = err_from_is_err_and c.from_residual.result c.from_residual.ensures.1 in
    let b = a.b.now in
    let count = c.box_count_at-count.ensures.0 ∙ ap box_count (layout_read b c.requires.0 a.i c.requires.1) in
    rw (p.1, p.2) (attribute_breaks (core_in b) a.i a.d.now a.syntax _ count a.found.image c.requires.2.image.0 _ c.in_err-box_broken.ensures (eqb-false _ 0 (status_some failure)))

pub returns-then-not-is_fill : goal.returns-then-not-is_fill
returns-then-not-is_fill c =
    let a = c.args in
    let b = a.b.now in
    let count = c.box_count_at-count.ensures.0 ∙ ap box_count (layout_read b c.requires.0 a.i c.requires.1) in
    nothing_fills (core_in b) a.i a.d.now a.syntax _ count a.found.image c.requires.2.image.0 _ c.in_ok-box_broken.ensures refl c.is_fill.result c.is_fill.ensures c.if-not-is_fill.true

pub returns-then-number_at-eq4294967296 : goal.returns-then-number_at-eq4294967296
returns-then-number_at-eq4294967296 c =
    let a = c.args in
    let b = a.b.now in
    let count = c.box_count_at-count.ensures.0 ∙ ap box_count (layout_read b c.requires.0 a.i c.requires.1) in
    picture_lacks (core_in b) a.i a.d.now a.syntax _ count a.found.image c.requires.2.image.0 _ c.in_ok-box_broken.ensures refl c.is_fill.result c.is_fill.ensures c.if-not-is_fill.false
    _ (c.number_at.ensures.0 ∙ picture_read b) c.if-number_at-eq4294967296.true

pub returns : goal.returns
returns c =
    let a = c.args in
    let b = a.b.now in
    let count = c.box_count_at-count.ensures.0 ∙ ap box_count (layout_read b c.requires.0 a.i c.requires.1) in
    picture_given (core_in b) a.i a.d.now a.syntax _ count a.found.image c.requires.2.image.0 _ c.in_ok-box_broken.ensures refl c.is_fill.result c.is_fill.ensures c.if-not-is_fill.false
    _ (c.number_at.ensures.0 ∙ picture_read b) c.if-number_at-eq4294967296.false
