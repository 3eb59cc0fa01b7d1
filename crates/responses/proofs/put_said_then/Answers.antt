use mathlib.Core.List.{◌++◌}
use native.Mathlib.Omega.{arith}
use lib.ListN.{length-append}
use Rattle.writing.proofs.Chain.{laid_next, laid_next_two}
use Rattle.rules.specs.Responses.{data_set_type}
use Rattle.responses.specs.Parts.{data_shown, number_bytes, uid_bytes, action_bytes, said_then}
use Rattle.responses.proofs.Response.{number_size, action_size}
use Rattle.responses.proofs.put_said_then.Goals as goal

pub returns : goal.returns
unfolding said_then
returns c =
    let a = c.args in
    let room = c.requires in
    let shown = c.put_short-p in
    let status = c.put_short-q in
    let instance = c.put_uid-r in
    let action = c.put_action in
    let shownBytes = number_bytes 0x0000_0800 (data_set_type (data_shown a.with_data)) in
    let statusBytes = number_bytes 0x0000_0900 a.status in
    let instanceBytes = uid_bytes 0x0000_1000 a.instance.now in
    let l = number_size 0x0000_0800 (data_set_type (data_shown a.with_data)) in
    let k = number_size 0x0000_0900 a.status in
    let m = action_size a.action in (
      laid_next a.out.now shown.new.out _ shownBytes (statusBytes ++ (instanceBytes ++ action_bytes a.action)) a.at shown.result (omega arith) (omega arith)
          (rw c.data_set_type.ensures at shown.ensures.0)
          (laid_next_two shown.new.out _ _ _ statusBytes instanceBytes (action_bytes a.action) shown.result status.result instance.result (omega arith) (omega arith) instance.ensures.1
          status.ensures.0 instance.ensures.0 action.ensures.0),
      simp length-append (omega arith),
      omega arith,
    )
