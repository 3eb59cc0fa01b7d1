use mathlib.Core.Path.{◌∙◌}
use Rattle.creating.proofs.Laws.{serial_read}
use Rattle.creating.proofs.next_serial.Goals as goal

pub returns : goal.returns
returns c = c.number_at.ensures.0 ∙ serial_read c.args.b.now
