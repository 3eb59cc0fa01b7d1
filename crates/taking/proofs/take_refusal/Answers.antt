use borrow.Author.Tests.{eq-eqb, ne_eqb, lt-ltb, le-ltb}
use Rattle.taking.proofs.Entry.{entries_counted}
use Rattle.taking.proofs.take_refusal.Goals as goal

pub returns-then-room-lt-TAKEN : goal.returns-then-room-lt-TAKEN
returns-then-room-lt-TAKEN c = simp (lt-ltb _ _ c.if-room-lt-TAKEN.true)

pub returns-then-records-eq0 : goal.returns-then-records-eq0
returns-then-records-eq0 c =
    simp (le-ltb _ _ c.if-room-lt-TAKEN.false, entries_counted _ c.requires, eq-eqb _ _ c.if-records-eq0.true)

pub returns : goal.returns
returns c =
    simp (le-ltb _ _ c.if-room-lt-TAKEN.false, entries_counted _ c.requires, ne_eqb _ _ c.if-records-eq0.false)
