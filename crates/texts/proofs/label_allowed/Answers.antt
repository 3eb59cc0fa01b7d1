use Rattle.std.proofs.Common.{rules}
use Rattle.rules.specs.Values.{label_allowed}
use Rattle.texts.proofs.label_allowed.Goals as goal

pub returns-then-v-le64 : goal.returns-then-v-le64
unfolding label_allowed
returns-then-v-le64 c = search rules

pub returns-else-v-le64 : goal.returns-else-v-le64
unfolding label_allowed
returns-else-v-le64 c = search rules
