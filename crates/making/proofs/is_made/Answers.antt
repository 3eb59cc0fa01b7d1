use borrow.Author.Rules.{rules}
use Rattle.making.proofs.Compared.{made_tests}
use Rattle.making.proofs.is_made.Goals as goal

pub returns-then-uid-dot-eq46 : goal.returns-then-uid-dot-eq46
returns-then-uid-dot-eq46 c = rw (made_tests c.args.root.now c.args.uid.now c.args.serial) (search rules)

pub returns-else-uid-dot-eq46 : goal.returns-else-uid-dot-eq46
returns-else-uid-dot-eq46 c = rw (made_tests c.args.root.now c.args.uid.now c.args.serial) (search rules)
