use borrow.Author.Tests.{eq-eqb, ne_eqb}
use Rattle.opening.proofs.Answers.{live_in}
use Rattle.opening.proofs.open_refusal.Goals as goal

pub returns-then-message_wrong : goal.returns-then-message_wrong
returns-then-message_wrong c = simp (← c.message_wrong.ensures, c.if-message_wrong.true)

pub returns-then-context_bad : goal.returns-then-context_bad
returns-then-context_bad c =
    simp (← c.message_wrong.ensures, c.if-message_wrong.false, ← c.context_bad.ensures, c.if-context_bad.true)

pub returns-then-syntax_bad : goal.returns-then-syntax_bad
returns-then-syntax_bad c =
    simp (← c.message_wrong.ensures, c.if-message_wrong.false, ← c.context_bad.ensures, c.if-context_bad.false, ← c.syntax_bad.ensures, c.if-syntax_bad.true)

pub returns-then-records-ne0 : goal.returns-then-records-ne0
returns-then-records-ne0 c =
    simp (← c.message_wrong.ensures, c.if-message_wrong.false, ← c.context_bad.ensures, c.if-context_bad.false, ← c.syntax_bad.ensures, c.if-syntax_bad.false)
    (simp (live_in c.args.records.now, ne_eqb _ _ c.if-records-ne0.true))

pub returns : goal.returns
returns c =
    simp (← c.message_wrong.ensures, c.if-message_wrong.false, ← c.context_bad.ensures, c.if-context_bad.false, ← c.syntax_bad.ensures, c.if-syntax_bad.false)
    (simp (live_in c.args.records.now, eq-eqb _ _ c.if-records-ne0.false))
