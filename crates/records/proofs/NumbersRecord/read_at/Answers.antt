use Rattle.rules.specs.Layout.{numbers_format}
use Rattle.records.proofs.NumbersRecord.read_at.Goals as goal

pub returns : goal.returns
unfolding numbers_format
returns c = simp (c.u16_at-ticket.ensures, c.number_at-picture.ensures.0, c.number_at-serial.ensures.0, c.bytes_at-root.ensures)
