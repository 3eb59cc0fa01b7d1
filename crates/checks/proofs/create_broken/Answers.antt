use Rattle.checks.proofs.Named.{sent-by}
use Rattle.checks.proofs.create_broken.Goals as goal

pub returns-then-sent-eq0 : goal.returns-then-sent-eq0
returns-then-sent-eq0 c = search sent-by

pub returns-then-not-is_uid : goal.returns-then-not-is_uid
returns-then-not-is_uid c = search sent-by

pub returns-then-is_rooted : goal.returns-then-is_rooted
returns-then-is_rooted c = search sent-by

pub returns-then-not-is_nobody : goal.returns-then-not-is_nobody
returns-then-not-is_nobody c = search sent-by

pub returns : goal.returns
returns c = search sent-by
