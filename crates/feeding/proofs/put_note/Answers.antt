use Rattle.feeding.proofs.Response.{note_told}
use Rattle.feeding.proofs.put_note.Goals as goal

pub returns : goal.returns
returns c = rw (c.numbers_of.ensures, note_told _ _ _ _) at c.put_report.ensures
