use Rattle.rules.specs.Text.{chars}
use Rattle.rules.specs.Values.{kind_in}
use borrow.Author.Rules.{rules}
use Rattle.layouts.proofs.kind_in.Goals as goal

pub returns-then-same_bytes : goal.returns-then-same_bytes
unfolding chars kind_in
returns-then-same_bytes c = search rules

pub returns-then-same_bytes-2 : goal.returns-then-same_bytes-2
unfolding chars kind_in
returns-then-same_bytes-2 c = search rules

pub returns : goal.returns
unfolding chars kind_in
returns c = search rules
