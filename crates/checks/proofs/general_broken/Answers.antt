use Rattle.checks.proofs.Asked.{class_in, asked_by}
use Rattle.checks.proofs.general_broken.Goals as goal

pub uid_at-requires : goal.uid_at-requires
uid_at-requires c = rw c.class_part.ensures (class_in _ c.args.operation c.requires)

pub returns-then-is_unknown : goal.returns-then-is_unknown
returns-then-is_unknown c = search asked_by

pub returns-then-not-offers : goal.returns-then-not-offers
returns-then-not-offers c = search asked_by

pub returns-then-is_too_long : goal.returns-then-is_too_long
returns-then-is_too_long c = search asked_by

pub returns : goal.returns
returns c = search asked_by
