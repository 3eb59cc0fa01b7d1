use Prim.Native.Nat.{◌<◌}
use mathlib.Core.Path.{◌≡◌, sym, ap, subst, ◌∙◌}
use native.Mathlib.Omega.{arith}
use lib.ListN.{length}
use Rattle.rules.specs.Bounds.{none_left}
use Rattle.rules.specs.Records.{box_count}
use Rattle.rules.specs.Attributes.{listing_of}
use Rattle.rules.specs.Effects.{new_film}
use Rattle.promises.proofs.Layouts.{layout_few}
use Rattle.records.specs.Places.{core_in}
use Rattle.creating.proofs.Laws.{serial_left, own_left, first_fits, film_kept}
use borrow.Author.Rules.{rules}
use Rattle.creating.proofs.new_film.Goals as goal

pub name_by-name-requires : goal.name_by-name-requires
name_by-name-requires c =
    let a = c.args in
    let k = core_in a.b.now in
    let h = film_kept k a.sent.now (listing_of a.d.now a.syntax) c.requires.1 in
    (c.requires.0, subst (λ n. length a.sent.now ≡ 0 → n < none_left) (sym c.next_serial-serial.ensures) (serial_left k.numbers a.sent.now (own_left _ _ _ h.serials)))

pub new_boxes-boxes-requires : goal.new_boxes-boxes-requires
new_boxes-boxes-requires c =
    let few = layout_few (listing_of c.args.d.now c.args.syntax) in
    omega (arith, few, c.box_count.ensures.0 ∙ ap box_count c.requires.3)

pub overflow_add-next : goal.overflow_add-next
overflow_add-next c =
    let a = c.args in
    let k = core_in a.b.now in
    let h = film_kept k a.sent.now (listing_of a.d.now a.syntax) c.requires.1 in
    let first = first_fits _ _ _ _ _ h.serials h.some c.next_serial-serial.ensures c.own_serials-own.ensures.0 in
    search rules

pub overflow_cast-first : goal.overflow_cast-first
overflow_cast-first c =
    let a = c.args in
    let k = core_in a.b.now in
    let h = film_kept k a.sent.now (listing_of a.d.now a.syntax) c.requires.1 in
    let first = first_fits _ _ _ _ _ h.serials h.some c.next_serial-serial.ensures c.own_serials-own.ensures.0 in
    search rules

pub returns : goal.returns
unfolding new_film
returns c =
    let a = c.args in
    let k = core_in a.b.now in
    let h = film_kept k a.sent.now (listing_of a.d.now a.syntax) c.requires.1 in
    c.film_with.ensures ∙ rw (h.own, c.own_serials-own.ensures.0, c.new_boxes-boxes.ensures, c.box_count.ensures.0, c.requires.3, c.name_by-name.ensures, c.next_serial-serial.ensures)
