use mathlib.Core.Path.{sym, ap, subst, ◌∙◌}
use Prim.Native.Nat.{◌≤◌}
use lib.ListN.{length}
use Rattle.rules.specs.Commands.{uid_at}
use Rattle.commands.specs.Within.{PartIn}
use Rattle.uids.proofs.Length.{uid_short}
use Rattle.feeding.proofs.Response.{class_uid, says_by_lem}
use borrow.Author.Rules.{rules}
use Rattle.feeding.proofs.put_command.Goals as goal

pub uid_at-requires : goal.uid_at-requires
uid_at-requires c = let a = c.args in
    subst (PartIn (length a.c.now)) (sym c.class_part.ensures) (class_uid a.c.now a.request.operation c.requires.1).0

pub put_response-requires : goal.put_response-requires
put_response-requires c =
    let a = c.args in
    let uid = (class_uid a.c.now a.request.operation c.requires.1).1 in
    (search rules, subst (λ u. length u ≤ 64) (sym (c.uid_at.ensures ∙ ap (uid_at a.c.now) c.class_part.ensures)) (uid_short _ uid), search rules)

pub returns : goal.returns
returns c =
    let a = c.args in
    let uid = (class_uid a.c.now a.request.operation c.requires.1).1 in
    let said = says_by_lem a.c.now a.request _ a.instance.now _ _ uid (c.uid_at.ensures ∙ ap (uid_at a.c.now) c.class_part.ensures) c.field_of.ensures c.action_of.ensures in
    (rw (← said) c.put_response.ensures.0, rw (← said) c.put_response.ensures.1)
