use Prim.Native.Nat.{◌+◌, ◌≤◌}
use mathlib.Core.Path.{sym, ◌∙◌}
use native.Mathlib.Omega.{arith}
use lib.ListN.{get_or, length-take}
use Rattle.rules.specs.Layout.{name_format, serial_format, numbers_format}
use Rattle.taking.specs.Oldest.{film_place}
use Rattle.taking.proofs.Entry.{sent_uid_lem, made_uid}
use Rattle.taking.proofs.uid_filled.Goals as goal

pub overflow_cast-end : goal.overflow_cast-end
unfolding name_format serial_format
overflow_cast-end c =
    let text_used : get_or c.args.records.now (film_place + 4) 0 ≤ 64 = c.requires.1 in
    omega (arith, text_used)

pub overflow_add-end : goal.overflow_add-end
unfolding name_format serial_format
overflow_add-end c =
    let text_used : get_or c.args.records.now (film_place + 4) 0 ≤ 64 = c.requires.1 in
    omega (arith, text_used)

pub slice_bounds-sent_filled-end : goal.slice_bounds-sent_filled-end
unfolding name_format serial_format
slice_bounds-sent_filled-end c =
    let text_used : get_or c.args.records.now (film_place + 4) 0 ≤ 64 = c.requires.1 in
    omega (arith, text_used, c.told-records)

pub sent_filled-requires : goal.sent_filled-requires
unfolding name_format serial_format
sent_filled-requires c =
    let text_used : get_or c.args.records.now (film_place + 4) 0 ≤ 64 = c.requires.1 in
    rw length-take (omega (arith, text_used))

pub returns-then-made-eq0 : goal.returns-then-made-eq0
returns-then-made-eq0 c =
    sent_uid_lem c.args.records.now (omega (arith, c.told-records)) (sym c.u32_at-made.ensures.0 ∙ c.if-made-eq0.true) c.requires.1 _ c.sent_filled.ensures

pub overflow_cast-end-2 : goal.overflow_cast-end-2
unfolding numbers_format
overflow_cast-end-2 c =
    let root_used : get_or c.args.records.now 0 0 ≤ 40 = c.requires.0 in
    omega (arith, root_used)

pub overflow_add-end-2 : goal.overflow_add-end-2
unfolding numbers_format
overflow_add-end-2 c =
    let root_used : get_or c.args.records.now 0 0 ≤ 40 = c.requires.0 in
    omega (arith, root_used)

pub slice_bounds-made_filled-end : goal.slice_bounds-made_filled-end
unfolding numbers_format
slice_bounds-made_filled-end c =
    let root_used : get_or c.args.records.now 0 0 ≤ 40 = c.requires.0 in
    omega (arith, root_used, c.told-records)

pub made_filled-requires : goal.made_filled-requires
unfolding numbers_format
made_filled-requires c =
    let root_used : get_or c.args.records.now 0 0 ≤ 40 = c.requires.0 in
    rw length-take (omega (arith, root_used))

pub returns : goal.returns
returns c =
    made_uid c.args.records.now (omega (arith, c.told-records)) (λ z. c.if-made-eq0.false (c.u32_at-made.ensures.0 ∙ z)) c.requires.0 _ (rw c.u32_at-made.ensures.0 at c.made_filled.ensures)
