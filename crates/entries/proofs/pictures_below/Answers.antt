use mathlib.Core.Path.{refl, sym, ap, ◌∙◌}
use native.Mathlib.Omega.{arith}
use lib.Dec.{ltb}
use lib.Seq.{take_all}
use Rattle.fields.specs.Format.{read_all, array}
use Rattle.rules.specs.declared.Picture.{Picture}
use Rattle.rules.specs.Bounds.{most_boxes}
use Rattle.rules.specs.Layout.{picture_format}
use Rattle.rules.specs.Lists.{every}
use Rattle.distinct.proofs.Arrays.{flag_on, flag_not, flag_end}
use Rattle.entries.proofs.pictures_below.Goals as goal
use Rattle.entries.proofs.pictures_below.Goals.{then-not-picture_below, else-not-picture_below}

pub loop-i-init : goal.loop-i-init
unfolding read_all
loop-i-init c =
    let a = c.args in
    let pictures = (array most_boxes picture_format).read a.b.now a.p in
    ap (every (λ (x : Picture). ltb x.0 a.next)) (sym (take_all most_boxes pictures (omega arith)))

pub loop-i-preserved : goal.loop-i-preserved
unfolding read_all picture_format
loop-i-preserved c =
    let a = c.args in
    let o = c.loop-i in
    let x = c.picture_below in
    elim c.if-not-picture_below.branch [
      | then-not-picture_below w ↦ o.invariant ∙ flag_not picture_format a.b.now a.p most_boxes most_boxes o.i (λ (x : Picture). ltb x.0 a.next) refl _ refl c.loop-i-test.true (omega arith) x.result x.ensures o.below w.if-not-picture_below.true ∙ rw w.below-is
      | else-not-picture_below w ↦ o.invariant ∙ flag_on picture_format a.b.now a.p most_boxes most_boxes o.i (λ (x : Picture). ltb x.0 a.next) refl _ refl c.loop-i-test.true (omega arith) x.result x.ensures o.below w.if-not-picture_below.false ∙ rw w.below-is
    ]

pub returns : goal.returns
returns c =
    let a = c.args in
    let o = c.loop-i in
    sym (o.invariant ∙ flag_end picture_format a.b.now a.p most_boxes most_boxes o.i (λ (x : Picture). ltb x.0 a.next) o.below c.loop-i-test.false)
