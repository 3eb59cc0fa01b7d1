use Rattle.fields.specs.Format.{write}
use Rattle.fields.proofs.put_number.Goals as goal

pub returns : goal.returns
unfolding write
returns c = c.put_number.ensures
