use Rattle.acting.proofs.films_queued.Goals as goal

pub returns : goal.returns
returns c = rw c.change_by-change.ensures
