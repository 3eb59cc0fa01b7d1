use Rattle.records.specs.Places.{core_in}
use Rattle.setting.specs.Asked.{asked}
use Rattle.setting.proofs.set.Goals as goal

pub returns : goal.returns
returns c =
    let a = c.args in
    c.decided.ensures (core_in a.b.now) _ (c.set_planned.ensures a.c.now (asked a.message a.target))
