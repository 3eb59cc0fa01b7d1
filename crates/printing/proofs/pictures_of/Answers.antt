use Rattle.std.proofs.Common.{arith, rules}
use Rattle.rules.specs.Effects.{picture_on}
use Rattle.printing.proofs.Counted.{made_none, made_turn}
use Rattle.printing.proofs.pictures_of.Goals as goal

pub loop-i-init : goal.loop-i-init
loop-i-init c = (search rules, made_none (picture_on c.args.boxes.now))

pub loop-i-preserved : goal.loop-i-preserved
loop-i-preserved c = let o = c.loop-i in
    (search rules, made_turn (picture_on c.args.boxes.now) o.i o.pictures c.picture_on.result (omega (arith, o.invariant.0)) c.picture_on.ensures o.invariant.1)
