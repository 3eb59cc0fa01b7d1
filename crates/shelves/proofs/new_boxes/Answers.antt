use mathlib.Core.Path.{◌≡◌}
use native.Mathlib.Omega.{arith}
use Rattle.rules.specs.Bounds.{most_boxes}
use Rattle.rules.specs.Lists.{from}
use Rattle.rules.specs.Records.{no_box}
use Rattle.rules.specs.Effects.{new_box}
use Rattle.shelves.proofs.Filled.{counted_more}
use borrow.Author.Rules.{rules}
use Rattle.shelves.proofs.new_boxes.Goals as goal

pub loop-i-init : goal.loop-i-init
unfolding from
loop-i-init c = simp c.no_box-boxes.ensures

pub loop-i-preserved : goal.loop-i-preserved
loop-i-preserved c =
    let o = c.loop-i in
    rw (o.invariant, c.no_box.ensures) (counted_more most_boxes no_box new_box 1 o.i (search rules))

pub returns : goal.returns
returns c =
    let e : c.loop-i.i ≡ c.args.count = omega arith in
    rw (← e) c.loop-i.invariant
