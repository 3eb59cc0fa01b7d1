use Prim.Native.Nat.{ℕ, ◌-◌}
use mathlib.Core.Path.{ap, ◌∙◌}
use mathlib.Core.List.{List}
use native.Mathlib.Omega.{arith}
use lib.ListN.{get_or, replicate}
use Rattle.octets.specs.Octets.{laid}
use Rattle.fields.specs.Format.{write, byte}
use Rattle.rules.specs.Layout.{film_size}
use Rattle.records.specs.Places.{shelf_place}
use Rattle.changes.proofs.Changed.{place_below, count_read, count_some}
use Rattle.changes.proofs.Deleted.{last_place, film_deleted_lem}
use borrow.Author.Rules.{rules}
use Rattle.records.proofs.Whole.{whole}
use Rattle.changes.proofs.put_film_deleted.Goals as goal

pub film_place-requires : goal.film_place-requires
film_place-requires c =
    let a = c.args in
    place_below a.b.now (λ i. omega (arith, c.fits-b i)) (whole _ c.told-b) a.place c.requires.1

pub overflow_sub-count : goal.overflow_sub-count
overflow_sub-count c =
    let some = count_some c.args.b.now (λ i. omega (arith, c.fits-b i)) (whole _ c.told-b) c.args.place c.requires.0 c.requires.1 in
    search rules

pub returns : goal.returns
returns c =
    let a = c.args in
    let b = a.b.now in
    let count = get_or b shelf_place 0 in
    c.put_byte.ensures
    ∙ ap (λ (t : List ℕ). write byte (count - 1) t shelf_place) (c.put.ensures ∙ ap (λ (t : List ℕ). laid t last_place (replicate film_size 0)) (rw c.film_place.ensures.at at c.move_films_down.ensures))
    ∙ film_deleted_lem b (λ i. omega (arith, c.fits-b i)) (whole _ c.told-b) c.requires.0 a.place c.requires.1 count (count_read b (λ i. omega (arith, c.fits-b i)) (whole _ c.told-b))
