use Rattle.std.proofs.Common.{◌+◌}
use Rattle.traces.proofs.replies.+after_hex.Given as goal

abbrev pub decreases-after_hex : goal.decreases-after_hex
decreases-after_hex l = l.n + l.width
