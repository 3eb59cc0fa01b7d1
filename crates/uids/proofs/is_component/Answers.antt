use Rattle.std.proofs.Common.{rules}
use Rattle.uids.specs.Uids.{component}
use Rattle.uids.proofs.is_component.Goals as goal

pub returns-then-s-eq1 : goal.returns-then-s-eq1
unfolding component
returns-then-s-eq1 c = search rules

pub returns-else-s-eq1 : goal.returns-else-s-eq1
unfolding component
returns-else-s-eq1 c = search rules

pub returns-else-all_digits : goal.returns-else-all_digits
unfolding component
returns-else-all_digits c = search rules
