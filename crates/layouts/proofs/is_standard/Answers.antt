use Rattle.rules.specs.Text.{chars}
use Rattle.layouts.proofs.Laws.{standard_tests}
use borrow.Author.Rules.{rules}
use Rattle.layouts.proofs.is_standard.Goals as goal

pub returns-then-t-eq44 : goal.returns-then-t-eq44
unfolding chars
returns-then-t-eq44 c = rw (standard_tests c.args.t.now) (search rules)

pub returns-else-t-eq44 : goal.returns-else-t-eq44
unfolding chars
returns-else-t-eq44 c = rw (standard_tests c.args.t.now) (search rules)
