use native.Mathlib.Omega.{arith}
use Rattle.uids.specs.Uids.{made}
use Rattle.responses.proofs.Film.{box_laid}
use Rattle.responses.proofs.put_box.Goals as goal

pub returns : goal.returns
returns c =
    let a = c.args in
    let list = c.put_box_list-stop in
    box_laid a.syntax (made a.root.now a.serial) a.out.now _ _ a.at list.result (omega arith) list.ensures.0 list.ensures.1 list.ensures.2 c.put_item.ensures.0
