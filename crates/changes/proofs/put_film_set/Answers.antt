use mathlib.Core.Path.{◌∙◌}
use native.Mathlib.Omega.{arith}
use Rattle.changes.proofs.Changed.{place_below, film_set_lem}
use Rattle.records.proofs.Whole.{whole}
use Rattle.changes.proofs.put_film_set.Goals as goal

pub film_place-requires : goal.film_place-requires
film_place-requires c =
    let a = c.args in
    place_below a.b.now (λ i. omega (arith, c.fits-b i)) (whole _ c.told-b) a.place c.requires.1

pub returns : goal.returns
returns c =
    let a = c.args in
    rw c.film_place.ensures.at at c.put.ensures
    ∙ film_set_lem a.b.now (λ i. omega (arith, c.fits-b i)) (whole _ c.told-b) a.place a.film.now c.requires.0 c.requires.1
