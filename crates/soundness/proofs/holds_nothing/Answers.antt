use Rattle.names.proofs.Tests.{tests}
use Rattle.soundness.proofs.holds_nothing.Goals as goal

pub returns-then-used-eq0 : goal.returns-then-used-eq0
returns-then-used-eq0 c = search tests

pub returns-else-used-eq0 : goal.returns-else-used-eq0
returns-else-used-eq0 c = search tests
