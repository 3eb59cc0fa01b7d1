use Rattle.std.proofs.Common.{rules}
use Rattle.rules.specs.Values.{blank}
use Rattle.texts.proofs.is_blank.Goals as goal

pub returns : goal.returns
unfolding blank
returns c = search rules
