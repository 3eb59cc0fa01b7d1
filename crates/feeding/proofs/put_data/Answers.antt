use mathlib.Core.Path.{sym, subst}
use Rattle.octets.proofs.Laid.{laid_none}
use Rattle.rules.specs.Responses.{ContentsFit}
use Rattle.feeding.proofs.put_data.Goals as goal

pub put_new_boxes-requires : goal.put_new_boxes-requires
put_new_boxes-requires c =
    (c.requires.0, c.requires.1, subst ContentsFit c.in-Some.is c.requires.2)

pub returns-in-None : goal.returns-in-None
returns-in-None c =
    (rw c.in-None.is (sym (laid_none c.args.data_set.now 0)), rw c.in-None.is)

pub returns-in-Some : goal.returns-in-Some
returns-in-Some c =
    (rw c.in-Some.is c.put_new_boxes.ensures.0, rw c.in-Some.is c.put_new_boxes.ensures.1)
