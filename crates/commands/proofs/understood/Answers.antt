use Rattle.commands.proofs.understood.Goals as goal

pub returns : goal.returns
returns c = c.said.ensures.0
