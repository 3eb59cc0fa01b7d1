use Rattle.commands.proofs.value_of.Goals as goal

pub returns-in-Fault : goal.returns-in-Fault
returns-in-Fault c = rw c.in-Fault.is

pub returns-in-Value : goal.returns-in-Value
returns-in-Value c = rw c.in-Value.is

pub returns-in-Nest : goal.returns-in-Nest
returns-in-Nest c = rw c.in-Nest.is
