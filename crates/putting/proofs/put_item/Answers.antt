use Rattle.putting.proofs.put_item.Goals as goal

pub returns : goal.returns
returns c = c.put_plain.ensures
