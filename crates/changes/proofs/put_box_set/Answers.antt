use mathlib.Core.Path.{◌∙◌}
use native.Mathlib.Omega.{arith}
use Rattle.choice.specs.Pick.{pick}
use Rattle.rules.specs.Records.{picture_used}
use Rattle.records.specs.Places.{core_in}
use Rattle.changes.proofs.Changed.{place_below, box_set_lem}
use Rattle.records.proofs.Whole.{whole}
use Rattle.changes.proofs.put_box_set.Goals as goal

pub film_place-requires : goal.film_place-requires
film_place-requires c =
    let a = c.args in
    place_below a.b.now (λ i. omega (arith, c.fits-b i)) (whole _ c.told-b) a.film c.requires.1

pub returns : goal.returns
returns c =
    let a = c.args in
    let n = (core_in a.b.now).numbers in
    rw c.film_place.ensures.at at c.put.ensures
    ∙ box_set_lem a.b.now (λ i. omega (arith, c.fits-b i)) (whole _ c.told-b) (pick a.fills (picture_used n) n) _ c.put_picture_used.ensures c.requires.0 a.film a.place a.anew.now c.requires.1 c.requires.2
