use mathlib.Core.Path.{◌∙◌}
use Rattle.shelves.proofs.Filled.{laid_filled}
use Rattle.taking.proofs.sent_filled.Goals as goal

pub returns : goal.returns
returns c = c.put.ensures ∙ laid_filled 64 0 c.args.uid.now c.requires
