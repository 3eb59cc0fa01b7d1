use Rattle.rules.specs.Layout.{entry_format}
use Rattle.rules.proofs.Sizes.{picture_size_lem}
use Rattle.records.proofs.EntryRecord.read_at.Goals as goal

pub returns : goal.returns
unfolding entry_format
returns c = simp (picture_size_lem, c.read_at-film.ensures, c.u16_at-ticket.ensures, c.array_at-pictures.ensures)
