use mathlib.Core.Path.{◌∙◌}
use Rattle.opening.proofs.Blank.{no_input_written}
use Rattle.opening.proofs.put_no_input.Goals as goal

pub returns : goal.returns
returns c =
    c.put_zeros.ensures ∙ no_input_written c.args.records.now
