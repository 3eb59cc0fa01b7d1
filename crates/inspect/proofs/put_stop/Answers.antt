use native.Mathlib.Omega.{arith}
use Rattle.fields.specs.Format.{number}
use Rattle.fields.proofs.Laws.{number_laws}
use Rattle.fields.proofs.Steps.{write_then}
use Rattle.inspect.specs.Inspected.{stop_laid}
use Rattle.inspect.proofs.put_stop.Goals as goal

pub returns : goal.returns
unfolding stop_laid
returns c =
    let a = c.args in
    rw (write_then (number_laws 4) (number 4) (a.stop.place, a.stop.depth) a.out.now 0 (omega arith), ← c.put_number.ensures) c.put_number-2.ensures
