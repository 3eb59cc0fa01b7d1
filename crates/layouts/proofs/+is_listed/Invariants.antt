use lib.ListN.{length}
use Rattle.layouts.proofs.+is_listed.Given as goal

abbrev pub decreases-is_listed : goal.decreases-is_listed
decreases-is_listed l = length l.s.now
