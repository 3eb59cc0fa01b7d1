use Rattle.rules.specs.Layout.{film_format}
use Rattle.rules.proofs.Sizes.{name_size_lem, layout_size_lem, serial_size_lem}
use Rattle.records.proofs.FilmRecord.read_at.Goals as goal

pub returns : goal.returns
unfolding film_format
returns c = simp (name_size_lem, layout_size_lem, serial_size_lem, c.array_at-boxes.ensures, c.read_at-first.ensures, c.read_at-layout.ensures, c.read_at-name.ensures)
