use Rattle.feeding.proofs.Response.{front_fits}
use mathlib.Core.Path.{ap}
use lib.ListN.{length}
use borrow.Author.Rules.{rules}
use Rattle.feeding.proofs.put_text.Goals as goal

pub put-requires : goal.put-requires
put-requires c = let a = c.args in front_fits a.text _ a.used _ c.front-uid.ensures (search rules)

pub returns : goal.returns
returns c = (rw (← c.front-uid.ensures) c.put.ensures, ap length c.front-uid.ensures, search rules)
