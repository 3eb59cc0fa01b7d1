use mathlib.Core.Path.{sym, ◌∙◌}
use Rattle.names.proofs.Tests.{first_failed, tests}
use Rattle.entries.proofs.Queue.{queue_told, rest_blank}
use Rattle.records.proofs.Whole.{whole}
use Rattle.entries.proofs.queue_sound.Goals as goal

pub returns-then-count-gt16 : goal.returns-then-count-gt16
returns-then-count-gt16 c = queue_told c.args.b.now _ c.from-count.ensures (search tests depth 6)

pub returns-then-entries_sound : goal.returns-then-entries_sound
returns-then-entries_sound c =
    let b = c.args.b.now in
    let blank = c.zeros_in.ensures ∙ sym (rest_blank b c.from-count.result c.if-count-gt16.false (whole _ c.told-b)) in
    queue_told b _ c.from-count.ensures (search (tests, blank) depth 6)

pub returns-else-entries_sound : goal.returns-else-entries_sound
returns-else-entries_sound c = queue_told c.args.b.now _ c.from-count.ensures (search (tests, first_failed) depth 6)
