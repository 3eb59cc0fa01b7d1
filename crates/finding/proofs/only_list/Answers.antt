use Rattle.finding.proofs.only_list.Goals as goal

pub returns-in-Nest : goal.returns-in-Nest
returns-in-Nest c = rw c.in-Nest.is
