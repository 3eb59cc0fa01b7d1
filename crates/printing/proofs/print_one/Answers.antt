use Rattle.rules.specs.Effects.{printed, entries_for, ticket_after}
use Rattle.printing.proofs.print_one.Goals as goal

pub returns : goal.returns
unfolding printed entries_for ticket_after
returns c = rw (c.put_newest.ensures, c.ticket_used-k.ensures, c.entry_of-entry.ensures)
