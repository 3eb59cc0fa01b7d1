use mathlib.Core.Path.{refl, ap, subst, ◌∙◌}
use Rattle.std.proofs.lemmas.Result.{err_from_is_err_and}
use Rattle.rules.specs.declared.Name.{Name}
use Rattle.rules.specs.declared.Instance.{Instance}
use Rattle.rules.specs.Records.{sent_name, named}
use Rattle.rules.specs.Commands.{uid_at}
use Rattle.rules.specs.Checks.{target_rules, action_plan, plan_of}
use Rattle.records.specs.Places.{core_in}
use Rattle.verdicts.specs.Decided.{Follows}
use Rattle.verdicts.proofs.Plans.{fails, stands}
use Rattle.acting.specs.Acting.{action_rules}
use Rattle.acting.proofs.action_planned.Goals as goal

pub returns-in_err-action_broken : goal.returns-in_err-action_broken
unfolding plan_of target_rules
returns-in_err-action_broken c =
    let a = c.args in
    let k = core_in a.b.now in
    let uid = uid_at a.c.now a.action.instance in
    let p = err_from_is_err_and c.from_residual.result c.from_residual.ensures.1 in
    rw (p.1, p.2) (fails k (action_rules k a.c.now a.action) (action_plan k (named k uid) (sent_name uid)) refl _ c.in_err-action_broken.ensures)

pub returns : goal.returns
unfolding plan_of target_rules
returns c =
    let a = c.args in
    let k = core_in a.b.now in
    let uid = uid_at a.c.now a.action.instance in
    stands k (action_rules k a.c.now a.action) (action_plan k (named k uid) (sent_name uid)) refl c.printed.result c.in_ok-action_broken.ensures
    (subst (λ (name : Name). Follows k (action_plan k (named k uid) name) c.printed.result) c.name_at.ensures
    (subst (λ (whom : Instance). Follows k (action_plan k whom c.name_at.result) c.printed.result) (c.named-whom.ensures.0 ∙ ap (named k) c.uid_at.ensures) c.printed.ensures))
