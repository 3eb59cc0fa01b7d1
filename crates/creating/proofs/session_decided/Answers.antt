use mathlib.Core.Path.{refl, sym, subst, ◌∙◌}
use Rattle.std.proofs.lemmas.Result.{err_from_is_err_and}
use Rattle.rules.specs.Attributes.{listing_of}
use Rattle.rules.specs.declared.Class.TheVariants.{Sessions}
use Rattle.rules.specs.Checks.{create_plan}
use Rattle.records.specs.Places.{core_in}
use Rattle.changes.specs.Changes.{Fits}
use Rattle.verdicts.proofs.Plans.{own_fails}
use Rattle.creating.proofs.Laws.{serials_known, session_kept, session_created_lem, session_fits, session_stands}
use Rattle.creating.proofs.session_decided.Goals as goal

pub new_session_broken-requires : goal.new_session_broken-requires
new_session_broken-requires c =
    ((serials_known _ c.requires.0.1.0).1, c.session_found-found.ensures)

pub returns-in_err-new_session_broken : goal.returns-in_err-new_session_broken
unfolding create_plan
returns-in_err-new_session_broken c =
    let a = c.args in
    let k = core_in a.b.now in
    let l = listing_of a.d.now a.syntax in
    let p = err_from_is_err_and c.from_residual.result c.from_residual.ensures.1 in
    rw (p.1, p.2) (own_fails k (create_plan k Sessions a.sent.now l) refl _ c.in_err-new_session_broken.ensures)

pub session_made-session-requires : goal.session_made-session-requires
session_made-session-requires c =
    (c.requires.1, sym c.in_ok-new_session_broken.ensures, c.session_found-found.ensures)

pub returns : goal.returns
returns c =
    let a = c.args in
    let k = core_in a.b.now in
    let sent = a.sent.now in
    let l = listing_of a.d.now a.syntax in
    let m = c.session_made-session in
    let n = c.own_serials in
    let e = c.change_with_session-change in
    let h = session_kept k sent l (sym c.in_ok-new_session_broken.ensures) in
    session_stands k sent l c.with_change.result c.in_ok-new_session_broken.ensures
    (c.with_change.ensures.0 k ∙ session_created_lem k sent l m.result n.result e.result m.ensures n.ensures.0 e.ensures)
    (subst (Fits k) (sym c.with_change.ensures.1) (session_fits k sent l m.result n.result e.result m.ensures n.ensures.0 e.ensures h.1))
