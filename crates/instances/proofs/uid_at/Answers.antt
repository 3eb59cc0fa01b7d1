use Rattle.rules.specs.Commands.{bytes_of, uid_at}
use Rattle.instances.proofs.uid_at.Goals as goal

pub returns : goal.returns
unfolding uid_at bytes_of
returns c = c.unpadded.ensures
