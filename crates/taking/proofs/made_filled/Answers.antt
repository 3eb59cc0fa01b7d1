use mathlib.Core.Path.{◌∙◌}
use Rattle.taking.proofs.Entry.{made_fits}
use Rattle.taking.proofs.made_filled.Goals as goal

pub returns : goal.returns
returns c = c.put_made.ensures.0 ∙ made_fits c.args.root.now c.args.serial c.requires
