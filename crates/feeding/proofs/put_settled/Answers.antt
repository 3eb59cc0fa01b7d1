use mathlib.Core.Path.{ap, ◌∙◌}
use Rattle.fields.specs.Format.{write}
use Rattle.strike.specs.Machine.{idle}
use Rattle.rules.specs.Layout.{input_format, core_size}
use Rattle.rules.specs.Outcomes.{input_held, written}
use Rattle.feeding.specs.Feeding.{settled}
use Rattle.feeding.proofs.Records.{core_and_input}
use Rattle.records.proofs.Whole.{whole}
use Rattle.feeding.proofs.put_settled.Goals as goal

pub returns-then-v : goal.returns-then-v
unfolding settled written
returns-then-v c =
    rw c.if-v.true
    (c.put_no_input.ensures
    ∙ ap (λ b. write input_format (input_held idle) b core_size) c.put_change.ensures
    ∙ core_and_input c.args.records.now _ (input_held idle) (whole _ c.told-records))

pub returns-else-v : goal.returns-else-v
unfolding settled
returns-else-v c = rw c.if-v.false c.put_idle.ensures
