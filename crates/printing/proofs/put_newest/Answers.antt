use Rattle.printing.proofs.Queued.{tidy_count, queued_longer}
use Rattle.std.proofs.Common.{rules}
use Rattle.printing.proofs.put_newest.Goals as goal

pub bounds-q-count : goal.bounds-q-count
bounds-q-count c = let e = tidy_count c.args.q.now c.requires.0 in
    search rules

pub overflow_add-q : goal.overflow_add-q
overflow_add-q c = let e = tidy_count c.args.q.now c.requires.0 in
    search rules

pub returns : goal.returns
returns c = queued_longer c.args.q.now c.args.e.now c.requires.0 c.requires.1
