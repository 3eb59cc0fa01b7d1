use Rattle.rules.specs.Calls.{started}
use Rattle.opening.proofs.started.Goals as goal

pub returns : goal.returns
unfolding started
returns c = simp (c.new_numbers-numbers.ensures, c.no_session-session.ensures, c.no_films-shelf.ensures, c.no_entries-queue.ensures)
