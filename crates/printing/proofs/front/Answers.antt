use Rattle.std.proofs.lemmas.List.{take_min}
use Rattle.printing.proofs.front.Goals as goal

pub returns : goal.returns
returns g c = rw c.min.ensures (take_min c.args.count c.args.items.now)
