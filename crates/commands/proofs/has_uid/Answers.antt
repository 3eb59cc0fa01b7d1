use Rattle.rules.specs.Commands.{uid_at, bytes_of}
use Rattle.commands.proofs.has_uid.Goals as goal

pub returns : goal.returns
unfolding uid_at bytes_of
returns c = c.is_padded_uid.ensures
