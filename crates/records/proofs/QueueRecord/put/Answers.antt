use Rattle.rules.specs.Layout.{queue_format}
use Rattle.rules.proofs.Sizes.{queue_size_lem}
use Rattle.rules.proofs.Steps.{queue_steps}
use Rattle.records.proofs.QueueRecord.put.Goals as goal

pub returns : goal.returns
unfolding queue_format queue_steps
returns c =
    let a = c.args in
    rw (queue_steps.same a.self.now a.s.now a.at (rw queue_size_lem c.requires), c.put_array.ensures, c.put_byte.ensures)
