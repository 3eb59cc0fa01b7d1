use Prim.Native.Nat.{ℕ}
use mathlib.Core.Path.{sym, ap, subst, subst⁻¹}
use mathlib.Core.List.{List}
use Rattle.rules.specs.declared.Verdict.{Verdict}
use Rattle.rules.specs.Responses.{ContentsFit}
use Rattle.rules.specs.Checks.{result_of}
use Rattle.records.specs.Places.{core_in}
use Rattle.changes.specs.Changes.{verdict_of}
use Rattle.promises.proofs.Replies.{contents_fit}
use Rattle.verdicts.specs.Ready.{UidsIn}
use Rattle.answering.proofs.Laws.{uids_known, meant_left, request_as}
use Rattle.answering.proofs.known.Goals as goal

pub decided-v-requires : goal.decided-v-requires
decided-v-requires c =
    let uids : UidsIn c.command_held-c.result.now c.args.request.operation = subst⁻¹ (λ (x : List ℕ). UidsIn x c.args.request.operation) c.command_held-c.ensures c.requires.3 in
    ((c.requires.0.0, c.requires.2), uids, c.requires.4)

pub respond-requires : goal.respond-requires
respond-requires c =
    let uids : UidsIn c.command_held-c.result.now c.args.request.operation = subst⁻¹ (λ (x : List ℕ). UidsIn x c.args.request.operation) c.command_held-c.ensures c.requires.3 in
    let a = c.args in
    let text = c.command_held-c.result.now in
    let k = core_in a.records.now in
    let fit = contents_fit k text (record { came = a.came; bytes = a.d.now }) a.request c.requires.2.0 (uids_known text a.request.operation uids) in
    (c.requires.0.1, c.requires.0.2, c.requires.0.3, c.requires.2.0, uids, subst (λ (x : Verdict). ContentsFit x.contents) (sym c.decided-v.ensures.0) fit)

pub put_settled-requires : goal.put_settled-requires
put_settled-requires c =
    ((c.requires.2.1, c.requires.2.2), c.decided-v.ensures.1)

pub returns : goal.returns
returns c =
    let a = c.args in
    let k = core_in a.records.now in
    let text = c.command_held-c.result.now in
    request_as k (record { came = a.came; bytes = a.d.now }) a.request c.command_held-c.ensures _ _ _ _ _ _ _ _
    (meant_left k text a.request (verdict_of k c.decided-v.result) _ (ap (result_of k text a.request) c.decided-v.ensures.0) _ _ _ _ _ _ _ _ c.put_settled.ensures
    c.respond.ensures.0 c.respond.ensures.1 c.respond.ensures.2)
