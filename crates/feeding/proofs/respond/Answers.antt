use Prim.Native.Nat.{◌≤◌}
use mathlib.Core.Path.{ap, sym, subst, ◌∙◌}
use Rattle.rules.specs.Records.{uid_of, instance_of}
use Rattle.records.specs.Places.{core_in}
use Rattle.records.proofs.Parts.{core_numbers}
use Rattle.changes.specs.Changes.{verdict_of}
use Rattle.responses.specs.Parts.{given}
use Rattle.octets.proofs.Laid.{laid_front}
use Rattle.promises.proofs.Facts.{root_short}
use Rattle.feeding.proofs.Response.{front_short, responded}
use borrow.Author.Rules.{rules}
use Rattle.feeding.proofs.respond.Goals as goal

pub put_data-size-requires : goal.put_data-size-requires
put_data-size-requires c =
    (c.requires.1, root_short (core_in c.args.b.now) c.requires.3, c.requires.5)

pub put_uid-n-requires : goal.put_uid-n-requires
put_uid-n-requires c =
    (search rules, subst (λ n. n.used ≤ 40) (core_numbers c.args.b.now ∙ sym c.read_at-numbers.ensures) (root_short (core_in c.args.b.now) c.requires.3))

pub put_command-stop-requires : goal.put_command-stop-requires
put_command-stop-requires c =
    (search rules, c.requires.4, front_short _ _ _ 64 c.front.ensures c.put_uid-n.ensures.2)

pub returns : goal.returns
returns c =
    let a = c.args in
    let k = core_in a.b.now in
    let n = c.read_at-numbers.result in
    let same = c.read_at-numbers.ensures ∙ sym (core_numbers a.b.now) in
    let told = c.front.ensures ∙ laid_front _ _ (uid_of n a.v.instance) _ c.put_uid-n.ensures.0 c.put_uid-n.ensures.1 in
    responded k a.c.now a.request (verdict_of k a.v) _ _ c.front.result.now a.command.now _ a.data_set.now _ a.report.now _ (ap given told ∙ c.put_uid-n.ensures.3 ∙ ap (λ m. instance_of m a.v.instance) same) c.put_data-size.ensures c.put_command-stop.ensures c.put_note.ensures
