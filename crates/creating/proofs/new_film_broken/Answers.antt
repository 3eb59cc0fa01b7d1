use mathlib.Core.Path.{sym, ◌∙◌}
use native.Mathlib.Omega.{arith}
use lib.ListN.{length}
use borrow.Author.Tests.{eq-eqb, ne_eqb}
use Rattle.std.proofs.lemmas.Result.{err_from_is_err_and}
use Rattle.rules.specs.Records.{films_of}
use Rattle.rules.specs.Attributes.{listing_of, film_create_standings}
use Rattle.records.specs.Places.{core_in}
use Rattle.creating.proofs.Laws.{count_read, film_rows, attributes_broken, attributes_kept, serials_told, films_counted}
use Rattle.creating.proofs.new_film_broken.Goals as goal

pub returns-in_err-film_create_broken : goal.returns-in_err-film_create_broken
returns-in_err-film_create_broken c =
    let a = c.args in
    let k = core_in a.b.now in
    let l = listing_of a.d.now a.syntax in
    let p = err_from_is_err_and c.from_residual.result c.from_residual.ensures.1 in
    rw (p.1, p.2) (attributes_broken (film_create_standings k l) (film_rows k a.sent.now l) _ c.in_err-film_create_broken.ensures)

pub returns-then-b-eq8 : goal.returns-then-b-eq8
returns-then-b-eq8 c =
    let a = c.args in
    let b = a.b.now in
    let k = core_in b in
    let l = listing_of a.d.now a.syntax in
    let kept = c.in_ok-film_create_broken.ensures in
    attributes_kept (film_create_standings k l) (film_rows k a.sent.now l) kept
    (rw (eq-eqb (length (films_of k.shelf)) 8 (films_counted k.shelf c.requires.1 ∙ sym (count_read b) ∙ c.if-b-eq8.true)))

pub too_few_serials-requires : goal.too_few_serials-requires
too_few_serials-requires c =
    (omega (arith, c.next_serial.ensures, c.requires.0), c.film_serials.ensures.1)

pub returns-then-too_few_serials : goal.returns-then-too_few_serials
returns-then-too_few_serials c =
    let a = c.args in
    let b = a.b.now in
    let k = core_in b in
    let l = listing_of a.d.now a.syntax in
    attributes_kept (film_create_standings k l) (film_rows k a.sent.now l) c.in_ok-film_create_broken.ensures
    (rw (ne_eqb (length (films_of k.shelf)) 8 (λ e. c.if-b-eq8.false (count_read b ∙ sym (films_counted k.shelf c.requires.1) ∙ e)), sym (serials_told a.sent.now l c.requires.3 c.film_serials.ensures.0), sym c.next_serial.ensures, sym c.too_few_serials.ensures ∙ c.if-too_few_serials.true))

pub returns : goal.returns
returns c =
    let a = c.args in
    let b = a.b.now in
    let k = core_in b in
    let l = listing_of a.d.now a.syntax in
    attributes_kept (film_create_standings k l) (film_rows k a.sent.now l) c.in_ok-film_create_broken.ensures
    (rw (ne_eqb (length (films_of k.shelf)) 8 (λ e. c.if-b-eq8.false (count_read b ∙ sym (films_counted k.shelf c.requires.1) ∙ e)), sym (serials_told a.sent.now l c.requires.3 c.film_serials.ensures.0), sym c.next_serial.ensures, sym c.too_few_serials.ensures ∙ c.if-too_few_serials.false))
