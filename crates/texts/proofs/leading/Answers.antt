use Rattle.std.proofs.Common.{rules}
use Rattle.std.proofs.iter.runs.Made.{chains}
use Rattle.texts.proofs.Turns.{leading_told}
use Rattle.texts.proofs.leading.Goals as goal

pub returns : goal.returns
returns c = (leading_told _ _ (search (rules, chains)) (search (rules, chains)) (search (rules, chains)), search (rules, chains))
