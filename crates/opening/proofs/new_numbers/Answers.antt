use mathlib.Core.Path.{◌∙◌}
use Rattle.shelves.proofs.Filled.{laid_filled}
use Rattle.opening.proofs.new_numbers.Goals as goal

pub returns : goal.returns
returns c = rw (c.put.ensures ∙ laid_filled 40 0 c.args.root.now c.requires)
