use borrow.Author.Tests.{eq-eqb, ne_eqb, lt-ltb, le-ltb}
use Rattle.feeding.proofs.Records.{live_in}
use Rattle.feeding.proofs.feed_refused.Goals as goal

pub returns-then-message_wrong : goal.returns-then-message_wrong
returns-then-message_wrong c = simp (← c.message_wrong.ensures, c.if-message_wrong.true)

pub returns-then-command-lt256 : goal.returns-then-command-lt256
returns-then-command-lt256 c = simp (← c.message_wrong.ensures, c.if-message_wrong.false, lt-ltb _ _ c.if-command-lt256.true)

pub returns-then-data_set-lt8192 : goal.returns-then-data_set-lt8192
returns-then-data_set-lt8192 c = simp (← c.message_wrong.ensures, c.if-message_wrong.false, le-ltb _ _ c.if-command-lt256.false, lt-ltb _ _ c.if-data_set-lt8192.true)

pub returns-then-report-lt20 : goal.returns-then-report-lt20
returns-then-report-lt20 c = simp (← c.message_wrong.ensures, c.if-message_wrong.false, le-ltb _ _ c.if-command-lt256.false, le-ltb _ _ c.if-data_set-lt8192.false, lt-ltb _ _ c.if-report-lt20.true)

pub returns-then-records-eq0 : goal.returns-then-records-eq0
returns-then-records-eq0 c =
    simp (← c.message_wrong.ensures, c.if-message_wrong.false, le-ltb _ _ c.if-command-lt256.false, le-ltb _ _ c.if-data_set-lt8192.false, le-ltb _ _ c.if-report-lt20.false)
    (simp (live_in c.args.records.now, eq-eqb _ _ c.if-records-eq0.true))

pub returns : goal.returns
returns c =
    simp (← c.message_wrong.ensures, c.if-message_wrong.false, le-ltb _ _ c.if-command-lt256.false, le-ltb _ _ c.if-data_set-lt8192.false, le-ltb _ _ c.if-report-lt20.false)
    (simp (live_in c.args.records.now, ne_eqb _ _ c.if-records-eq0.false))
