use Rattle.rules.specs.Layout.{session_format}
use Rattle.rules.proofs.Sizes.{name_size_lem}
use Rattle.records.proofs.SessionRecord.read_at.Goals as goal

pub returns : goal.returns
unfolding session_format
returns c = simp (name_size_lem, c.bytes_at-label.ensures, c.read_at-name.ensures)
