use Rattle.putting.proofs.put_ul.Goals as goal

pub returns : goal.returns
returns c = c.put_number_element.ensures
