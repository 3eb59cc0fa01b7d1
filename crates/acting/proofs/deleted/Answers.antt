use Rattle.rules.specs.declared.Operation.TheVariants.{Delete}
use Rattle.records.specs.Places.{core_in}
use Rattle.acting.proofs.deleted.Goals as goal

pub returns : goal.returns
returns c =
    let a = c.args in
    c.decided.ensures (core_in a.b.now) _ (c.deletion_planned.ensures a.c.now (record { message = a.message; operation = Delete a.target }))
