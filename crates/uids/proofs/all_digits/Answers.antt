use Rattle.std.proofs.Common.{rules}
use Rattle.std.proofs.iter.runs.Made.{chains}
use Rattle.uids.proofs.Turns.{digits_each}
use Rattle.uids.proofs.all_digits.Goals as goal

pub returns : goal.returns
returns c = digits_each _ _ (search (rules, chains))
