use mathlib.Core.List.{[]}
use native.Mathlib.Omega.{arith}
use Rattle.runs.proofs.Longer.{too_short, feed_longer}
use Rattle.feeding.proofs.Feeds.{feeds_unread}
use Rattle.answering.proofs.feed.Goals as goal

pub returns-in-Some : goal.returns-in-Some
returns-in-Some c =
    let front = c.in-Some.ensures.cases in
    let after = c.feed_records.new in
    feed_longer _ (λ i. omega (arith, c.slice_known-1.given i)) front.enough _ _ front.same _ _ _ _ _ _
    (record { records = []; message = after.message; command = after.command; data_set = after.data_set; report = after.report }) c.feed_records.ensures

pub returns-in-None : goal.returns-in-None
returns-in-None c = feeds_unread _ _ _ (too_short _ c.in-None.ensures.cases) (λ e. omega (arith, e))
