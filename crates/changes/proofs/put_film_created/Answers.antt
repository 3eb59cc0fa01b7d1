use Prim.Native.Nat.{ℕ, ◌+◌, ◌<◌}
use mathlib.Core.Path.{ap, ◌∙◌}
use mathlib.Core.List.{List}
use native.Mathlib.Omega.{arith}
use lib.ListN.{get_or}
use Rattle.fields.specs.Format.{write, byte}
use Rattle.rules.specs.Bounds.{most_films}
use Rattle.rules.specs.Records.{serials_used}
use Rattle.records.specs.Places.{shelf_place, core_in}
use Rattle.changes.proofs.Changed.{count_read, film_created_lem}
use borrow.Author.Rules.{rules}
use Rattle.records.proofs.Whole.{whole}
use Rattle.changes.proofs.put_film_created.Goals as goal

pub overflow_cast-count : goal.overflow_cast-count
overflow_cast-count c =
    let below : get_or c.args.b.now shelf_place 0 < most_films = (omega (arith, count_read c.args.b.now (λ i. omega (arith, c.fits-b i)), c.requires.1)) in
    search rules

pub film_place-requires : goal.film_place-requires
film_place-requires c =
    omega (arith, count_read c.args.b.now (λ i. omega (arith, c.fits-b i)), c.requires.1)

pub overflow_add-count : goal.overflow_add-count
overflow_add-count c =
    let below : get_or c.args.b.now shelf_place 0 < most_films = (omega (arith, count_read c.args.b.now (λ i. omega (arith, c.fits-b i)), c.requires.1)) in
    search rules

pub returns : goal.returns
returns c =
    let below : get_or c.args.b.now shelf_place 0 < most_films = (omega (arith, count_read c.args.b.now (λ i. omega (arith, c.fits-b i)), c.requires.1)) in
    let a = c.args in
    let b = a.b.now in
    let count = get_or b shelf_place 0 in
    c.put_byte.ensures
    ∙ ap (λ (t : List ℕ). write byte (count + 1) t shelf_place) (rw c.film_place.ensures.at at c.put.ensures)
    ∙ film_created_lem b (λ i. omega (arith, c.fits-b i)) (whole _ c.told-b) (serials_used a.serials (core_in b).numbers) _ c.put_serials_used.ensures c.requires.0 count a.film.now (count_read b (λ i. omega (arith, c.fits-b i)) (whole _ c.told-b)) below
