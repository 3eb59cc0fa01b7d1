use mathlib.Core.Path.{sym}
use Rattle.fields.proofs.Steps.{write_byte}
use Rattle.fields.proofs.put_byte.Goals as goal

pub returns : goal.returns
returns c = let a = c.args in
    sym (write_byte a.x a.s.now a.at c.requires)
