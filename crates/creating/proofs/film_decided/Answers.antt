use Prim.Native.Nat.{◌≤◌}
use mathlib.Core.Path.{refl, sym, subst}
use Rattle.std.proofs.lemmas.Result.{err_from_is_err_and}
use Rattle.rules.specs.declared.Film.{Film}
use Rattle.rules.specs.Bounds.{most_boxes}
use Rattle.rules.specs.Records.{box_count}
use Rattle.rules.specs.Attributes.{listing_of}
use Rattle.rules.specs.declared.Class.TheVariants.{Films}
use Rattle.rules.specs.Checks.{create_plan}
use Rattle.records.specs.Places.{core_in}
use Rattle.verdicts.proofs.Plans.{own_fails}
use Rattle.creating.proofs.Laws.{serials_known, serials_told, film_kept, room_left, new_few, film_stands}
use Rattle.creating.proofs.film_decided.Goals as goal

pub new_film_broken-requires : goal.new_film_broken-requires
new_film_broken-requires c =
    ((serials_known _ c.requires.0.1.0).1, c.requires.0.1.1, c.film_found-found.ensures, c.layout_in-layout.ensures)

pub returns-in_err-new_film_broken : goal.returns-in_err-new_film_broken
unfolding create_plan
returns-in_err-new_film_broken c =
    let a = c.args in
    let k = core_in a.b.now in
    let l = listing_of a.d.now a.syntax in
    let p = err_from_is_err_and c.from_residual.result c.from_residual.ensures.1 in
    rw (p.1, p.2) (own_fails k (create_plan k Films a.sent.now l) refl _ c.in_err-new_film_broken.ensures)

pub new_film-film-requires : goal.new_film-film-requires
new_film-film-requires c =
    (c.requires.1, sym c.in_ok-new_film_broken.ensures, c.film_found-found.ensures, c.layout_in-layout.ensures)

pub with_new_film-requires : goal.with_new_film-requires
with_new_film-requires c =
    subst (λ (f : Film). box_count f.layout ≤ most_boxes) (sym c.new_film-film.ensures) (new_few (core_in c.args.b.now) c.args.sent.now (listing_of c.args.d.now c.args.syntax))

pub returns : goal.returns
returns c =
    let a = c.args in
    let k = core_in a.b.now in
    let sent = a.sent.now in
    let l = listing_of a.d.now a.syntax in
    let f = c.new_film-film in
    let n = c.film_serials in
    let told = serials_told sent l c.layout_in-layout.ensures n.ensures.0 in
    let h = film_kept k sent l (sym c.in_ok-new_film_broken.ensures) in
    film_stands k sent l c.with_new_film.result f.result n.result f.ensures told c.with_new_film.ensures c.in_ok-new_film_broken.ensures (room_left k sent l c.requires.0.1.0 c.requires.0.1.1 h) h.serials
