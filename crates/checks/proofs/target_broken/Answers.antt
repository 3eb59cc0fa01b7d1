use Rattle.checks.proofs.Named.{target-by}
use Rattle.checks.proofs.target_broken.Goals as goal

pub returns-then-is_nobody : goal.returns-then-is_nobody
returns-then-is_nobody c = search target-by

pub returns-then-not-of_class : goal.returns-then-not-of_class
returns-then-not-of_class c = search target-by

pub returns : goal.returns
returns c = search target-by
