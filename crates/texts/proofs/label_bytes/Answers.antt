use Rattle.std.proofs.Common.{rules}
use Rattle.std.proofs.iter.runs.Made.{chains}
use Rattle.texts.proofs.Turns.{label_each}
use Rattle.texts.proofs.label_bytes.Goals as goal

pub returns : goal.returns
returns c = label_each _ _ (search (rules, chains))
