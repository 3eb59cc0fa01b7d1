use mathlib.Core.Path.{sym, ap, ◌∙◌}
use borrow.Author.Tests.{eq-eqb, ne_eqb}
use Rattle.uids.specs.Uids.{is_uid}
use borrow.Author.Rules.{rules}
use Rattle.verdicts.proofs.sent_name.Goals as goal

pub returns-then-sent-eq0 : goal.returns-then-sent-eq0
returns-then-sent-eq0 c = c.no_name.ensures ∙ rw (eq-eqb _ _ c.if-sent-eq0.true)

pub name_at-requires : goal.name_at-requires
name_at-requires c = (search rules, sym (ap is_uid c.uid_at.ensures) ∙ sym c.is_uid.ensures ∙ c.if-is_uid.true)

pub returns-then-is_uid : goal.returns-then-is_uid
returns-then-is_uid c =
    c.name_at.ensures
    ∙ rw (ne_eqb _ _ c.if-sent-eq0.false, sym (ap is_uid c.uid_at.ensures) ∙ sym c.is_uid.ensures ∙ c.if-is_uid.true)

pub returns : goal.returns
returns c =
    c.no_name-2.ensures
    ∙ rw (ne_eqb _ _ c.if-sent-eq0.false, sym (ap is_uid c.uid_at.ensures) ∙ sym c.is_uid.ensures ∙ c.if-is_uid.false)
