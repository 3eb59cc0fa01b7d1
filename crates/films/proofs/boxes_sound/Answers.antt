use mathlib.Core.Path.{refl, sym, ◌∙◌}
use Rattle.fields.specs.Format.{read_all}
use Rattle.rules.specs.Bounds.{most_boxes}
use Rattle.rules.specs.Layout.{picture_format, box_format}
use Rattle.rules.specs.Sound.{box_sound}
use Rattle.records.specs.Places.{numbers_in}
use Rattle.distinct.proofs.Arrays.{flag_on, flag_not, flag_end}
use Rattle.films.proofs.boxes_sound.Goals as goal
use Rattle.films.proofs.boxes_sound.Goals.{then-not-box_sound, else-not-box_sound}

pub loop-i-init : goal.loop-i-init
loop-i-init c = refl

pub loop-i-preserved : goal.loop-i-preserved
unfolding read_all box_format picture_format
loop-i-preserved c =
    let a = c.args in
    let b = a.b.now in
    let o = c.loop-i in
    let x = c.box_sound in
    elim c.if-not-box_sound.branch [
      | then-not-box_sound w ↦ o.invariant ∙ flag_not box_format b a.p most_boxes a.boxes o.i (box_sound a.boxes (numbers_in b)) refl _ refl c.loop-i-test.true c.requires.1 x.result x.ensures o.sound w.if-not-box_sound.true ∙ rw w.sound-is
      | else-not-box_sound w ↦ o.invariant ∙ flag_on box_format b a.p most_boxes a.boxes o.i (box_sound a.boxes (numbers_in b)) refl _ refl c.loop-i-test.true c.requires.1 x.result x.ensures o.sound w.if-not-box_sound.false ∙ rw w.sound-is
    ]

pub returns : goal.returns
returns c =
    let a = c.args in
    let b = a.b.now in
    let o = c.loop-i in
    sym (o.invariant ∙ flag_end box_format b a.p most_boxes a.boxes o.i (box_sound a.boxes (numbers_in b)) o.sound c.loop-i-test.false)
