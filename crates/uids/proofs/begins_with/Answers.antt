use mathlib.Core.Path.{sym}
use borrow.Author.Tests.{le-ltb}
use Rattle.std.proofs.Common.{rules}
use Rattle.uids.specs.Uids.{begins_with}
use Rattle.uids.proofs.Turns.{too_short}
use Rattle.uids.proofs.begins_with.Goals as goal
use Rattle.uids.proofs.begins_with.Goals.{then-n-uid, else-n-uid}

pub returns-then-same_bytes : goal.returns-then-same_bytes
unfolding begins_with
returns-then-same_bytes c = search rules

pub returns-else-same_bytes : goal.returns-else-same_bytes
unfolding begins_with
returns-else-same_bytes c =
    elim c.if-n-uid.branch [
      | then-n-uid w ↦ search rules
      | else-n-uid w ↦ rw (w.value-is, le-ltb _ _ w.if-n-uid.false) (sym (too_short _ _ w.if-n-uid.false))
    ]
