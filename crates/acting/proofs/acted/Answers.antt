use Rattle.rules.specs.declared.Operation.TheVariants.{Act}
use Rattle.records.specs.Places.{core_in}
use Rattle.acting.proofs.acted.Goals as goal

pub returns : goal.returns
returns c =
    let a = c.args in
    c.decided.ensures (core_in a.b.now) _ (c.action_planned.ensures a.c.now (record { message = a.message; operation = Act a.action }))
