use Rattle.collecting.proofs.Held.{holding_met}
use Rattle.records.proofs.Whole.{whole}
use Rattle.collecting.proofs.holding.Goals as goal

pub returns : goal.returns
returns c =
    let a = c.args in
    holding_met a.b.now (whole _ c.told-b) c.fits-b a.answer a.state a.got _ _ _ c.requires.0 c.requires.1 c.from.ensures c.put_byte.ensures c.put_number.ensures
