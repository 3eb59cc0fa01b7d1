use mathlib.Core.Path.{◌≡◌}
use mathlib.Core.Bool.{true, false}
use borrow.Author.Tests.{le-leb, lt-leb}
use Rattle.rules.specs.Sound.{between}
use Rattle.films.proofs.Boxes.{misplaced, box_told}
use Rattle.films.proofs.box_sound.Goals as goal

pub returns-then-position-lt1 : goal.returns-then-position-lt1
returns-then-position-lt1 c =
    let a = c.args in
    let out : between 1 a.boxes c.from-position.result ≡ false = rw (lt-leb 1 _ c.if-position-lt1.true) in
    misplaced a.b.now a.p a.boxes a.next _ c.requires.1 c.u32_at-picture.ensures.0 (rw (← c.from-position.ensures) out)

pub returns-then-boxes-position : goal.returns-then-boxes-position
returns-then-boxes-position c =
    let a = c.args in
    let out : between 1 a.boxes c.from-position.result ≡ false = rw (le-leb 1 _ c.if-position-lt1.false, lt-leb _ a.boxes c.if-boxes-position.true) in
    misplaced a.b.now a.p a.boxes a.next _ c.requires.1 c.u32_at-picture.ensures.0 (rw (← c.from-position.ensures) out)

pub returns-then-polarity-le1 : goal.returns-then-polarity-le1
returns-then-polarity-le1 c =
    let a = c.args in
    let placed : between 1 a.boxes c.from-position.result ≡ true = rw (le-leb 1 _ c.if-position-lt1.false, le-leb _ a.boxes c.if-boxes-position.false) in
    box_told a.b.now a.p a.boxes a.next _ c.requires.1 c.u32_at-picture.ensures.0 (rw (← c.from-position.ensures) placed) (rw (le-leb _ _ c.if-polarity-le1.true))

pub returns-else-polarity-le1 : goal.returns-else-polarity-le1
returns-else-polarity-le1 c =
    let a = c.args in
    let placed : between 1 a.boxes c.from-position.result ≡ true = rw (le-leb 1 _ c.if-position-lt1.false, le-leb _ a.boxes c.if-boxes-position.false) in
    box_told a.b.now a.p a.boxes a.next _ c.requires.1 c.u32_at-picture.ensures.0 (rw (← c.from-position.ensures) placed) (rw (lt-leb _ _ c.if-polarity-le1.false))
