use Rattle.headers.specs.Header.{tag_at}
use borrow.Author.Rules.{rules}
use Rattle.headers.proofs.tag_at.Goals as goal

pub returns : goal.returns
unfolding tag_at
returns c = search rules
