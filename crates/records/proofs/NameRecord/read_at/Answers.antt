use Rattle.rules.specs.Layout.{name_format}
use Rattle.rules.proofs.Sizes.{serial_size_lem}
use Rattle.records.proofs.NameRecord.read_at.Goals as goal

pub returns : goal.returns
unfolding name_format
returns c = simp (serial_size_lem, c.bytes_at-text.ensures, c.read_at-made.ensures)
