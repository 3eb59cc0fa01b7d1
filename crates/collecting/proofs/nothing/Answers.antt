use Rattle.collecting.proofs.Held.{nothing_met}
use Rattle.records.proofs.Whole.{whole}
use Rattle.collecting.proofs.nothing.Goals as goal

pub returns : goal.returns
returns c =
    nothing_met c.args.b.now (whole _ c.told-b) c.args.answer c.args.state _ _ _ c.put_no_input.ensures c.from.ensures c.put_byte.ensures
