use Prim.Native.Nat.{◌<◌}
use mathlib.Core.Path.{refl, ◌∙◌}
use Rattle.std.proofs.lemmas.Result.{err_from_is_err_and}
use Rattle.rules.specs.declared.Instance.TheVariants.{TheFilm}
use Rattle.rules.specs.Bounds.{most_films}
use Rattle.rules.specs.Attributes.{listing_of}
use Rattle.rules.specs.Checks.{set_plan}
use Rattle.records.specs.Places.{core_in}
use Rattle.changes.specs.Changes.{EffectFits}
use Rattle.setting.proofs.InPlace.{film_place_lem, film_read}
use Rattle.verdicts.proofs.Plans.{own_fails, own_stands}
use Rattle.setting.proofs.Laws.{film_stored}
use borrow.Author.Rules.{rules}
use Rattle.setting.proofs.film_decided.Goals as goal

pub returns-in_err-film_set_broken : goal.returns-in_err-film_set_broken
unfolding set_plan
returns-in_err-film_set_broken c =
    let a = c.args in
    let k = core_in a.b.now in
    let p = err_from_is_err_and c.from_residual.result c.from_residual.ensures.1 in
    rw (p.1, p.2) (own_fails k (set_plan k (TheFilm a.i) a.name (listing_of a.d.now a.syntax)) refl _ c.in_err-film_set_broken.ensures)

pub overflow_mul-i : goal.overflow_mul-i
overflow_mul-i c =
    let below : c.args.i < most_films = film_place_lem c.args.b.now c.requires.0.1.0 c.args.i c.requires.1 in
    search rules

pub overflow_add-i : goal.overflow_add-i
overflow_add-i c =
    let below : c.args.i < most_films = film_place_lem c.args.b.now c.requires.0.1.0 c.args.i c.requires.1 in
    search rules

pub read_at-old-requires : goal.read_at-old-requires
read_at-old-requires c =
    let below : c.args.i < most_films = film_place_lem c.args.b.now c.requires.0.1.0 c.args.i c.requires.1 in
    search rules

pub returns : goal.returns
unfolding set_plan EffectFits
returns c =
    let a = c.args in
    let k = core_in a.b.now in
    let l = listing_of a.d.now a.syntax in
    let was = c.read_at-old.ensures ∙ film_read a.b.now c.requires.0.1.0 a.i c.requires.1 in
    let change = c.change_with_film-change.ensures in
    own_stands k (set_plan k (TheFilm a.i) a.name l) refl c.with_change.result c.in_ok-film_set_broken.ensures
    (c.with_change.ensures.0 k ∙ film_stored k a.i l a.name _ was _ c.film_with-film.ensures _ change, rw (c.with_change.ensures.1, change) c.requires.1)
