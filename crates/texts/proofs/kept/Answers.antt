use Rattle.std.proofs.Common.{rules}
use Rattle.std.proofs.iter.runs.Made.{chains}
use Rattle.texts.proofs.Turns.{trailing_told}
use Rattle.texts.proofs.kept.Goals as goal

pub returns : goal.returns
returns c = (trailing_told _ _ (search (rules, chains)) (search (rules, chains)) (search (rules, chains)), search (rules, chains))
