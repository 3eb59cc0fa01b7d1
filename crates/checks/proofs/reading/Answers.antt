use Rattle.checks.proofs.reading.Goals as goal

pub returns-in-Whole : goal.returns-in-Whole
returns-in-Whole c = rw c.in-Whole.is c.data_set-reading.ensures.0
