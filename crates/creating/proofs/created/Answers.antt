use Rattle.rules.specs.declared.Operation.TheVariants.{Create}
use Rattle.records.specs.Places.{core_in}
use Rattle.creating.proofs.created.Goals as goal

pub returns : goal.returns
returns c =
    let a = c.args in
    c.decided.ensures (core_in a.b.now) _ (c.creation_planned.ensures a.c.now (record { message = a.message; operation = Create a.creation }))
