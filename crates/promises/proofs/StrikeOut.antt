-- Demand 3: strike-out, over the very definition of a call.
-- Assumes nothing.
use Rattle.strike.specs.Messages.{StrikeOut}
use Rattle.strike.proofs.Fate.{strike_out}
use Rattle.rules.specs.Calls.{printing}

-- Strike any whole messages that were answered with a failure, dropped, or cut off by the next command: every other call gets
-- the same answer, and sessions, films, boxes, queue and next numbers end the same.
pub printing_strikes_out : StrikeOut printing
printing_strikes_out = strike_out printing
