use borrow.Author.Tests.{eq-eqb, le-ltb, lt-ltb, ne_eqb}
use Rattle.choice.proofs.Picks.{nots}
use Rattle.opening.proofs.Answers.{live_in, room_in}
use Rattle.opening.proofs.message_wrong.Goals as goal

pub returns-then-room-lt4096 : goal.returns-then-room-lt4096
returns-then-room-lt4096 c = simp (lt-ltb _ _ c.if-room-lt4096.true)

pub returns-then-room-gt16777216 : goal.returns-then-room-gt16777216
returns-then-room-gt16777216 c = simp (le-ltb _ _ c.if-room-lt4096.false, lt-ltb _ _ c.if-room-gt16777216.true)

pub returns-then-records-ne0 : goal.returns-then-records-ne0
returns-then-records-ne0 c =
    simp (le-ltb _ _ c.if-room-lt4096.false, le-ltb _ _ c.if-room-gt16777216.false, live_in c.args.records.now, room_in c.args.records.now, ne_eqb _ _ c.if-records-ne0.true, ← c.u32_at.ensures.0, nots)

pub returns-else-records-ne0 : goal.returns-else-records-ne0
returns-else-records-ne0 c =
    simp (le-ltb _ _ c.if-room-lt4096.false, le-ltb _ _ c.if-room-gt16777216.false, live_in c.args.records.now, eq-eqb _ _ c.if-records-ne0.false)
