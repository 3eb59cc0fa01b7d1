use mathlib.Core.Path.{◌∙◌}
use Rattle.shelves.proofs.Filled.{laid_filled}
use Rattle.shelves.proofs.sent_name.Goals as goal

pub returns : goal.returns
returns c = rw (c.put.ensures ∙ laid_filled 64 0 c.args.uid.now c.requires)
