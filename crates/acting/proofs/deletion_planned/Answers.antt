use Prim.Native.Nat.{ℕ}
use mathlib.Core.Path.{refl, ap, ◌∙◌}
use mathlib.Core.List.{List}
use Rattle.std.specs.Prelude.{Ok}
use Rattle.std.proofs.lemmas.Result.{err_from_is_err_and}
use Rattle.rules.specs.declared.Request.{Request}
use Rattle.rules.specs.Records.{sent_name, named}
use Rattle.rules.specs.Commands.{uid_at}
use Rattle.rules.specs.Checks.{target_rules, delete_plan, plan_of}
use Rattle.records.specs.Places.{core_in}
use Rattle.verdicts.proofs.Plans.{fails, stands}
use Rattle.acting.proofs.Laws.{plain_delete}
use Rattle.acting.proofs.deletion_planned.Goals as goal

pub returns-in_err-target_broken : goal.returns-in_err-target_broken
unfolding plan_of target_rules
returns-in_err-target_broken c =
    let a = c.args in
    let k = core_in a.b.now in
    let uid = uid_at a.c.now a.target.instance in
    let p = err_from_is_err_and c.from_residual.result c.from_residual.ensures.1 in
    rw (p.1, p.2) (fails k (target_rules k a.c.now a.target.class a.target.instance) (delete_plan k (named k uid) (sent_name uid)) refl _ c.in_err-target_broken.ensures)

pub returns : goal.returns
unfolding plan_of target_rules
returns c =
    let a = c.args in
    let k = core_in a.b.now in
    let uid = uid_at a.c.now a.target.instance in
    let removed = c.removed.ensures k c.requires.0.1 c.named-whom.ensures.1 in
    stands k (target_rules k a.c.now a.target.class a.target.instance) (delete_plan k (named k uid) (sent_name uid)) refl (Ok c.removed.result) c.in_ok-target_broken.ensures
    (λ (command : List ℕ) (r : Request). (
      removed.0 ∙ rw (c.named-whom.ensures.0 ∙ ap (named k) c.uid_at.ensures, c.name_at.ensures) (plain_delete k command r (named k uid) (sent_name uid)),
      removed.1,
    ))
