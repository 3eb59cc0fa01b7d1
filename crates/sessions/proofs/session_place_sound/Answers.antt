use borrow.Author.Tests.{le-leb, lt-leb, eq-eqb, ne_eqb}
use Rattle.rules.specs.Layout.{session_format}
use Rattle.sessions.proofs.InPlace.{blank_told}
use Rattle.sessions.proofs.session_place_sound.Goals as goal

pub returns-then-live-gt1 : goal.returns-then-live-gt1
unfolding session_format
returns-then-live-gt1 c = simp (lt-leb _ 1 c.if-live-gt1.true)

pub returns-then-live-eq0 : goal.returns-then-live-eq0
unfolding session_format
returns-then-live-eq0 c =
    let clear = blank_told c.args.b.now c.args.p c.requires c.zeros_in.ensures in
    simp (le-leb _ 1 c.if-live-gt1.false, eq-eqb _ _ c.if-live-eq0.true, ← clear)

pub returns : goal.returns
unfolding session_format
returns c = simp (le-leb _ 1 c.if-live-gt1.false, ne_eqb _ _ c.if-live-eq0.false, ← c.session_sound.ensures)
