use Prim.Native.Nat.{ℕ, ◌≤◌}
use mathlib.Core.Path.{refl, sym, ap, subst, ◌∙◌}
use mathlib.Core.List.{List}
use lib.ListN.{length}
use Rattle.std.proofs.lemmas.Result.{err_from_is_err_and}
use Rattle.rules.specs.declared.Core.{Core}
use Rattle.rules.specs.declared.Creation.{Creation}
use Rattle.rules.specs.declared.Class.{Class}
use Rattle.rules.specs.Records.{syntax_in}
use Rattle.rules.specs.Commands.{uid_at}
use Rattle.rules.specs.Attributes.{listing_of}
use Rattle.rules.specs.Checks.{Plan, class_of, create_rules, sent_uid, create_plan, plan_of}
use Rattle.records.specs.Places.{core_in}
use Rattle.verdicts.specs.Decided.{Follows}
use Rattle.verdicts.proofs.Plans.{fails, stands}
use Rattle.creating.proofs.Laws.{passed_short, sent_at}
use Rattle.creating.proofs.creation_planned.Goals as goal

abbrev plan : Core → List ℕ → List ℕ → Creation → Plan
plan k c d r = create_plan k (class_of (uid_at c r.class)) (sent_uid c r.sent) (listing_of d (syntax_in k))

pub returns-in_err-create_broken : goal.returns-in_err-create_broken
unfolding plan_of create_rules
returns-in_err-create_broken c =
    let a = c.args in
    let k = core_in a.b.now in
    let p = err_from_is_err_and c.from_residual.result c.from_residual.ensures.1 in
    rw (p.1, p.2) (fails k (create_rules k a.c.now a.creation.sent) (plan k a.c.now a.d.now a.creation) refl _ c.in_err-create_broken.ensures)

pub decided-requires : goal.decided-requires
decided-requires c =
    let a = c.args in
    (c.requires.0, subst (λ u. length u ≤ 64) (sym (c.uid_at-2.ensures ∙ sent_at a.c.now a.creation.sent)) (passed_short (core_in a.b.now) a.c.now a.creation.sent (sym c.in_ok-create_broken.ensures)))

pub returns : goal.returns
unfolding plan_of create_rules
returns c =
    let a = c.args in
    let k = core_in a.b.now in
    let l = listing_of a.d.now (syntax_in k) in
    let kind = c.class_of-kind.ensures ∙ ap class_of c.uid_at.ensures in
    let sent = c.uid_at-2.ensures ∙ sent_at a.c.now a.creation.sent in
    stands k (create_rules k a.c.now a.creation.sent) (plan k a.c.now a.d.now a.creation) refl c.decided.result c.in_ok-create_broken.ensures
    (subst (λ (x : Class). Follows k (create_plan k x (sent_uid a.c.now a.creation.sent) l) c.decided.result) kind
    (subst (λ (x : List ℕ). Follows k (create_plan k c.class_of-kind.result x l) c.decided.result) sent c.decided.ensures))
