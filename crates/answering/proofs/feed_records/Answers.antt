use mathlib.Core.Path.{refl, sym}
use native.Mathlib.Omega.{arith}
use lib.ListN.{length-take}
use Rattle.std.proofs.lemmas.Result.{err_from_is_err_and}
use Rattle.soundness.proofs.Refused.{not_done}
use Rattle.feeding.proofs.Feeds.{feeds_unread}
use Rattle.answering.proofs.Ways.{fed_refused, passed_by, message_short, room_for, fed_wrong, right_by, collect_ready, fed_ignored, fed_waits, fed_dropped, asked_ready, fed_asked}
use Rattle.answering.proofs.feed_records.Goals as goal

pub returns-in_err-refusal : goal.returns-in_err-refusal
returns-in_err-refusal c =
    let p = err_from_is_err_and c.from_residual.result c.from_residual.ensures.1 in
    rw (p.1, p.2) (feeds_unread _ _ _ c.in_err-refusal.ensures (not_done _))

pub returns-in_err-feed_refused : goal.returns-in_err-feed_refused
returns-in_err-feed_refused c =
    let p = err_from_is_err_and c.from_residual-in_err-feed_refused.result c.from_residual-in_err-feed_refused.ensures.1 in
    rw (p.1, p.2)
    (fed_refused (record { records = c.args.records.now; message = c.args.message.now; command = c.args.command.now; data_set = c.args.data_set.now; report = c.args.report.now }) _ c.in_err-feed_refused.ensures (sym c.in_ok-refusal.ensures) _ (not_done _))

pub returns-then-header_wrong : goal.returns-then-header_wrong
returns-then-header_wrong c =
    let passed = passed_by (record { records = c.args.records.now; message = c.args.message.now; command = c.args.command.now; data_set = c.args.data_set.now; report = c.args.report.now }) _ c.in_ok-feed_refused.ensures (sym c.in_ok-refusal.ensures) c.fits-records refl in
    fed_wrong passed _ _ c.header_wrong.ensures c.if-header_wrong.true _ c.put_closed.ensures

pub collect-requires : goal.collect-requires
collect-requires c =
    let passed = passed_by (record { records = c.args.records.now; message = c.args.message.now; command = c.args.command.now; data_set = c.args.data_set.now; report = c.args.report.now }) _ c.in_ok-feed_refused.ensures (sym c.in_ok-refusal.ensures) c.fits-records refl in
    let right = right_by passed _ _ c.header_wrong.ensures c.if-header_wrong.false in
    collect_ready right

pub asked-requires : goal.asked-requires
asked-requires c =
    let passed = passed_by (record { records = c.args.records.now; message = c.args.message.now; command = c.args.command.now; data_set = c.args.data_set.now; report = c.args.report.now }) _ c.in_ok-feed_refused.ensures (sym c.in_ok-refusal.ensures) c.fits-records refl in
    let right = right_by passed _ _ c.header_wrong.ensures c.if-header_wrong.false in
    let p = right.passed in
    let room = room_for p in
    let kept = asked_ready right _ _ _ c.collect.ensures in
    ((kept.0, room.1, room.2, room.3), kept.1, kept.2, rw (c.front-d.ensures, length-take _ _) (omega (arith, c.message-1.given, message_short p)))

pub returns-in-Ignored : goal.returns-in-Ignored
returns-in-Ignored c =
    let passed = passed_by (record { records = c.args.records.now; message = c.args.message.now; command = c.args.command.now; data_set = c.args.data_set.now; report = c.args.report.now }) _ c.in_ok-feed_refused.ensures (sym c.in_ok-refusal.ensures) c.fits-records refl in
    let right = right_by passed _ _ c.header_wrong.ensures c.if-header_wrong.false in
    fed_ignored right _ _ _ c.collect.ensures c.in-Ignored.is

pub returns-in-Wait : goal.returns-in-Wait
returns-in-Wait c =
    let passed = passed_by (record { records = c.args.records.now; message = c.args.message.now; command = c.args.command.now; data_set = c.args.data_set.now; report = c.args.report.now }) _ c.in_ok-feed_refused.ensures (sym c.in_ok-refusal.ensures) c.fits-records refl in
    let right = right_by passed _ _ c.header_wrong.ensures c.if-header_wrong.false in
    fed_waits right _ _ _ c.collect.ensures c.in-Wait.is

pub returns-in-Dropped : goal.returns-in-Dropped
returns-in-Dropped c =
    let passed = passed_by (record { records = c.args.records.now; message = c.args.message.now; command = c.args.command.now; data_set = c.args.data_set.now; report = c.args.report.now }) _ c.in_ok-feed_refused.ensures (sym c.in_ok-refusal.ensures) c.fits-records refl in
    let right = right_by passed _ _ c.header_wrong.ensures c.if-header_wrong.false in
    fed_dropped right _ _ _ c.collect.ensures c.in-Dropped.is

pub returns-in-Asks : goal.returns-in-Asks
returns-in-Asks c =
    let passed = passed_by (record { records = c.args.records.now; message = c.args.message.now; command = c.args.command.now; data_set = c.args.data_set.now; report = c.args.report.now }) _ c.in_ok-feed_refused.ensures (sym c.in_ok-refusal.ensures) c.fits-records refl in
    let right = right_by passed _ _ c.header_wrong.ensures c.if-header_wrong.false in
    fed_asked right _ _ _ c.collect.ensures _ _ _ _ _ c.in-Asks.is _ _ c.got.ensures.0 c.front-d.ensures c.asked.ensures
