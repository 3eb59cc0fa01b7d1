use Rattle.collecting.proofs.data_answer.Goals as goal

pub returns-then-last : goal.returns-then-last
returns-then-last c = rw c.if-last.true

pub returns-else-last : goal.returns-else-last
returns-else-last c = rw c.if-last.false
