use Prim.Native.Nat.{◌+◌}
use native.Mathlib.Omega.{arith}
use lib.ListN.{get_or}
use borrow.Author.Tests.{le-leb, lt-leb, eq-eqb, ne_eqb}
use Rattle.rules.specs.Layout.{opened_format}
use Rattle.rules.specs.Lists.{every}
use Rattle.records.specs.Places.{opened_place}
use Rattle.soundness.proofs.open_sound.Goals as goal

pub returns-then-b-ne1 : goal.returns-then-b-ne1
unfolding every opened_format
returns-then-b-ne1 c = simp (ne_eqb _ _ c.if-b-ne1.true)

pub returns-then-syntax-lt1 : goal.returns-then-syntax-lt1
unfolding every opened_format
returns-then-syntax-lt1 c =
    let byte = le-leb (get_or c.args.b.now (opened_place + 1) 0) 255 (omega (arith, c.fits-b (opened_place + 1))) in
    simp (eq-eqb _ _ c.if-b-ne1.false, byte, lt-leb _ _ c.if-syntax-lt1.true)

pub returns-then-syntax-gt2 : goal.returns-then-syntax-gt2
unfolding every opened_format
returns-then-syntax-gt2 c =
    let byte = le-leb (get_or c.args.b.now (opened_place + 1) 0) 255 (omega (arith, c.fits-b (opened_place + 1))) in
    simp (eq-eqb _ _ c.if-b-ne1.false, byte, le-leb _ _ c.if-syntax-lt1.false, lt-leb _ _ c.if-syntax-gt2.true)

pub returns-then-room-lt4096 : goal.returns-then-room-lt4096
unfolding every opened_format
returns-then-room-lt4096 c =
    let byte = le-leb (get_or c.args.b.now (opened_place + 1) 0) 255 (omega (arith, c.fits-b (opened_place + 1))) in
    simp (eq-eqb _ _ c.if-b-ne1.false, byte, le-leb _ _ c.if-syntax-lt1.false, le-leb _ _ c.if-syntax-gt2.false, ← c.u32_at-room.ensures.0, lt-leb _ _ c.if-room-lt4096.true)

pub returns-then-room-gt16777216 : goal.returns-then-room-gt16777216
unfolding every opened_format
returns-then-room-gt16777216 c =
    let byte = le-leb (get_or c.args.b.now (opened_place + 1) 0) 255 (omega (arith, c.fits-b (opened_place + 1))) in
    simp (eq-eqb _ _ c.if-b-ne1.false, byte, le-leb _ _ c.if-syntax-lt1.false, le-leb _ _ c.if-syntax-gt2.false, ← c.u32_at-room.ensures.0, le-leb _ _ c.if-room-lt4096.false, lt-leb _ _ c.if-room-gt16777216.true)

pub returns : goal.returns
unfolding every opened_format
returns c =
    let byte = le-leb (get_or c.args.b.now (opened_place + 1) 0) 255 (omega (arith, c.fits-b (opened_place + 1))) in
    simp (eq-eqb _ _ c.if-b-ne1.false, byte, le-leb _ _ c.if-syntax-lt1.false, le-leb _ _ c.if-syntax-gt2.false, ← c.u32_at-room.ensures.0, le-leb _ _ c.if-room-lt4096.false, le-leb _ _ c.if-room-gt16777216.false)
