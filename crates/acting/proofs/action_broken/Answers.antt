use mathlib.Core.Path.{sym, ◌∙◌}
use borrow.Author.Tests.{eq-eqb, ne_eqb}
use Rattle.std.proofs.lemmas.Result.{err_from_is_err_and}
use Rattle.records.specs.Places.{core_in}
use Rattle.verdicts.proofs.Plans.{status_some}
use Rattle.acting.proofs.Laws.{action_number}
use Rattle.acting.proofs.action_broken.Goals as goal

pub returns-in_err-target_broken : goal.returns-in_err-target_broken
returns-in_err-target_broken c =
    let a = c.args in
    let p = err_from_is_err_and c.from_residual.result c.from_residual.ensures.1 in
    rw (p.1, p.2) (sym (action_number (core_in a.b.now) a.c.now a.action _ c.in_err-target_broken.ensures ∙ rw (status_some c.in_err-target_broken.field-0.0)))

pub returns-then-action-ne1 : goal.returns-then-action-ne1
returns-then-action-ne1 c =
    let a = c.args in
    sym (action_number (core_in a.b.now) a.c.now a.action _ c.in_ok-target_broken.ensures ∙ rw (ne_eqb _ _ c.if-action-ne1.true))

pub returns : goal.returns
returns c =
    let a = c.args in
    sym (action_number (core_in a.b.now) a.c.now a.action _ c.in_ok-target_broken.ensures ∙ rw (eq-eqb _ _ c.if-action-ne1.false))
