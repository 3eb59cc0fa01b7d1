use mathlib.Core.Path.{refl, sym, ◌∙◌}
use Rattle.std.proofs.lemmas.Result.{err_from_is_err_and}
use Rattle.rules.specs.declared.Instance.TheVariants.{TheSession}
use Rattle.rules.specs.Attributes.{listing_of}
use Rattle.rules.specs.Checks.{set_plan}
use Rattle.records.specs.Places.{core_in}
use Rattle.changes.specs.Changes.{EffectFits}
use Rattle.verdicts.proofs.Plans.{own_fails, own_stands}
use Rattle.setting.proofs.Laws.{session_stored}
use Rattle.setting.proofs.session_decided.Goals as goal

pub returns-in_err-session_broken : goal.returns-in_err-session_broken
unfolding set_plan
returns-in_err-session_broken c =
    let a = c.args in
    let k = core_in a.b.now in
    let p = err_from_is_err_and c.from_residual.result c.from_residual.ensures.1 in
    rw (p.1, p.2) (own_fails k (set_plan k TheSession a.name (listing_of a.d.now a.syntax)) refl _ c.in_err-session_broken.ensures)

pub session_with-session-requires : goal.session_with-session-requires
session_with-session-requires c =
    (c.session_found-found.ensures, sym c.in_ok-session_broken.ensures)

pub returns : goal.returns
unfolding set_plan EffectFits
returns c =
    let a = c.args in
    let k = core_in a.b.now in
    let l = listing_of a.d.now a.syntax in
    let change = c.change_with_session-change.ensures in
    own_stands k (set_plan k TheSession a.name l) refl c.with_change.result c.in_ok-session_broken.ensures
    (c.with_change.ensures.0 k ∙ session_stored a.b.now l a.name _ c.read_at-old.ensures _ c.session_with-session.ensures _ change, rw (c.with_change.ensures.1, change) tt)
