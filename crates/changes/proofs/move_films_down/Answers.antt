use mathlib.Core.Path.{◌∙◌}
use native.Mathlib.Omega.{arith}
use Rattle.rules.specs.Layout.{film_size}
use Rattle.records.specs.Places.{queue_place}
use Rattle.changes.proofs.Moved.{moved}
use Rattle.records.proofs.Whole.{whole}
use Rattle.changes.proofs.move_films_down.Goals as goal

pub returns : goal.returns
returns c =
    let a = c.args in
    c.copy_within.ensures.after ∙ moved a.b.now a.from film_size queue_place c.requires (omega (arith, (whole _ c.told-b)))
