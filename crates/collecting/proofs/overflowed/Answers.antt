use Rattle.records.specs.Places.{held_in}
use Rattle.collecting.proofs.Held.{met_as}
use Rattle.collecting.proofs.Outcomes.{overflow_arm}
use Rattle.collecting.proofs.overflowed.Goals as goal

pub returns : goal.returns
returns c =
    met_as (overflow_arm (held_in c.args.b.now) c.args.last _ _ c.requires c.data_answer.ensures c.after_data-next.ensures) c.holding.ensures
