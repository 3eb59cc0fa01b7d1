use mathlib.Core.Path.{refl, ap, ◌∙◌}
use mathlib.Core.List.{[], ◌∷◌}
use Rattle.std.proofs.lemmas.Result.{err_from_is_err_and}
use Rattle.choice.specs.Pick.{pick}
use Rattle.rules.specs.Effects.{film_at, none_filled}
use Rattle.rules.specs.Checks.{action_plan}
use Rattle.rules.specs.declared.Instance.TheVariants.{TheFilm}
use Rattle.changes.specs.declared.Effect.TheVariants.{FilmPrinted}
use Rattle.changes.specs.Changes.{affected, EffectFits}
use Rattle.verdicts.proofs.Plans.{own_fails, own_stands}
use Rattle.acting.proofs.Laws.{queued_so, effect_fits, film_room, one_empty}
use Rattle.acting.proofs.film_printed.Goals as goal

pub returns-in_err-film_print_broken : goal.returns-in_err-film_print_broken
unfolding action_plan
returns-in_err-film_print_broken c =
    let a = c.args in
    let p = err_from_is_err_and c.from_residual.result c.from_residual.ensures.1 in
    rw (p.1, p.2) (own_fails a.k.now (action_plan a.k.now (TheFilm a.i) a.name) refl _ c.in_err-film_print_broken.ensures)

pub returns : goal.returns
unfolding action_plan affected EffectFits
returns c =
    let a = c.args in
    let warned = c.warned-status in
    let kept = c.in_ok-film_print_broken.ensures in
    own_stands a.k.now (action_plan a.k.now (TheFilm a.i) a.name) refl c.films_queued.result kept (
      queued_so a.k.now (FilmPrinted a.i) a.name 0xB603 (film_at a.k.now a.i ∷ []) warned.result 1 c.films_queued.result c.films_queued.ensures refl
          (warned.ensures ∙ ap (λ empty. pick empty 0xB603 0) (c.none_filled.ensures ∙ ap none_filled c.film_at-film.ensures ∙ one_empty (film_at a.k.now a.i))) refl,
      effect_fits a.k.now (FilmPrinted a.i) a.name warned.result 1 c.films_queued.result c.films_queued.ensures (c.requires.1, film_room a.k.now a.i _ kept refl),
    )
