use mathlib.Core.Path.{◌∙◌}
use Rattle.strike.specs.Machine.{idle}
use Rattle.rules.specs.Outcomes.{input_held}
use Rattle.feeding.proofs.Records.{input_alone}
use Rattle.records.proofs.Whole.{whole}
use Rattle.feeding.proofs.put_idle.Goals as goal

pub returns : goal.returns
returns c =
    c.put_no_input.ensures ∙ input_alone c.args.records.now (input_held idle) c.fits-records (whole _ c.told-records)
