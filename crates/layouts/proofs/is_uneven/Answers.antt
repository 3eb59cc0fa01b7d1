use Rattle.octets.proofs.Parts.{rest}
use Rattle.layouts.proofs.Laws.{uneven_tests, kind_long}
use borrow.Author.Rules.{rules}
use Rattle.layouts.proofs.is_uneven.Goals as goal

pub returns-then-kind_in-eq0 : goal.returns-then-kind_in-eq0
returns-then-kind_in-eq0 c = rw (uneven_tests c.args.t.now) (search rules)

pub slice_bounds-is_listed-count : goal.slice_bounds-is_listed-count
slice_bounds-is_listed-count c = kind_long _ (search rules)

pub slice_bounds-is_listed-start : goal.slice_bounds-is_listed-start
slice_bounds-is_listed-start c = kind_long _ (search rules)

pub returns-then-t-le15 : goal.returns-then-t-le15
returns-then-t-le15 c = rw (uneven_tests c.args.t.now, ← rest c.args.t.now 4) (search rules)

pub returns-else-t-le15 : goal.returns-else-t-le15
returns-else-t-le15 c = rw (uneven_tests c.args.t.now) (search rules)
