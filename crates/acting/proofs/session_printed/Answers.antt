use mathlib.Core.Path.{refl, ap, ◌∙◌}
use Rattle.std.proofs.lemmas.Result.{err_from_is_err_and}
use Rattle.choice.specs.Pick.{pick}
use Rattle.rules.specs.Records.{films_under}
use Rattle.rules.specs.Checks.{action_plan}
use Rattle.promises.proofs.Places.{films_under_lem}
use Rattle.rules.specs.declared.Instance.TheVariants.{TheSession}
use Rattle.changes.specs.declared.Effect.TheVariants.{SessionPrinted}
use Rattle.changes.specs.Changes.{affected, EffectFits}
use Rattle.verdicts.proofs.Plans.{own_fails, own_stands}
use Rattle.acting.proofs.Laws.{queued_so, effect_fits, session_room, films_counted}
use Rattle.acting.proofs.session_printed.Goals as goal

pub returns-in_err-session_print_broken : goal.returns-in_err-session_print_broken
unfolding action_plan
returns-in_err-session_print_broken c =
    let a = c.args in
    let p = err_from_is_err_and c.from_residual.result c.from_residual.ensures.1 in
    rw (p.1, p.2) (own_fails a.k.now (action_plan a.k.now TheSession a.name) refl _ c.in_err-session_print_broken.ensures)

pub returns : goal.returns
unfolding action_plan affected EffectFits
returns c =
    let a = c.args in
    let status = c.warned-status.result in
    let count = a.k.now.shelf.count in
    let kept = c.in_ok-session_print_broken.ensures in
    own_stands a.k.now (action_plan a.k.now TheSession a.name) refl c.films_queued.result kept (
      queued_so a.k.now SessionPrinted a.name 0xB602 (films_under 0 a.k.now.shelf) status count c.films_queued.result c.films_queued.ensures refl
          (c.warned-status.ensures ∙ ap (λ c. pick c 0xB602 0) c.any_empty.ensures) (films_counted a.k.now c.requires),
      effect_fits a.k.now SessionPrinted a.name status count c.films_queued.result c.films_queued.ensures (films_under_lem a.k.now c.requires.0, session_room a.k.now _ kept refl),
    )

pub session_print_broken-requires : goal.session_print_broken-requires
session_print_broken-requires c = films_under_lem c.args.k.now c.requires.0

pub any_empty-requires : goal.any_empty-requires
any_empty-requires c = films_under_lem c.args.k.now c.requires.0
