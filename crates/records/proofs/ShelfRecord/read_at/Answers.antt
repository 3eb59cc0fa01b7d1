use Rattle.rules.specs.Layout.{shelf_format}
use Rattle.records.proofs.ShelfRecord.read_at.Goals as goal

pub returns : goal.returns
unfolding shelf_format
returns c = simp c.array_at-films.ensures
