use native.Mathlib.Omega.{arith}
use Rattle.uids.specs.Uids.{made}
use Rattle.uids.proofs.Made.{made_short}
use Rattle.rules.specs.Text.{chars}
use Rattle.responses.proofs.Film.{part_laid, class_size, instance_size, box_list_laid}
use Rattle.responses.proofs.put_box_list.Goals as goal

pub put_element-p-requires : goal.put_element-p-requires
unfolding chars
put_element-p-requires c =
    omega (arith, class_size c.args.syntax)

pub put_element-requires : goal.put_element-requires
unfolding chars
put_element-requires c =
    let a = c.args in
    let uid = c.put_made-n in
    let short = made_short a.root.now a.serial (omega arith) in
    let class = class_size a.syntax in
    let part = part_laid _ _ (made a.root.now a.serial) uid.result uid.ensures.0 uid.ensures.1 in
    rw part (omega (arith, instance_size a.syntax (made a.root.now a.serial) short))

pub returns : goal.returns
unfolding chars
returns c =
    let a = c.args in
    let room = c.requires in
    let uid = c.put_made-n in
    let class = c.put_element-p in
    let part = part_laid _ _ (made a.root.now a.serial) uid.result uid.ensures.0 uid.ensures.1 in
    let instance = rw part at c.put_element.ensures in
    box_list_laid a.syntax (made a.root.now a.serial) a.out.now _ _ a.at _ _ (made_short a.root.now a.serial (omega arith)) (omega arith) class.ensures.0 class.ensures.1 instance.0 instance.1
