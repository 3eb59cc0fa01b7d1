use Prim.Native.Nat.{◌<◌}
use mathlib.Core.Path.{ap, ◌∙◌}
use Rattle.rules.specs.Bounds.{most_films}
use Rattle.rules.specs.Attributes.{listing_of, box_with}
use Rattle.setting.proofs.InPlace.{film_place_lem, box_read}
use borrow.Author.Rules.{rules}
use Rattle.setting.proofs.box_anew.Goals as goal

pub overflow_mul-i : goal.overflow_mul-i
overflow_mul-i c =
    let below : c.args.i < most_films = film_place_lem c.args.b.now c.requires.0 c.args.i c.requires.1 in
    search rules

pub overflow_add-i : goal.overflow_add-i
overflow_add-i c =
    let below : c.args.i < most_films = film_place_lem c.args.b.now c.requires.0 c.args.i c.requires.1 in
    search rules

pub overflow_add-i-2 : goal.overflow_add-i-2
overflow_add-i-2 c =
    let below : c.args.i < most_films = film_place_lem c.args.b.now c.requires.0 c.args.i c.requires.1 in
    search rules

pub overflow_add-i-3 : goal.overflow_add-i-3
overflow_add-i-3 c =
    let below : c.args.i < most_films = film_place_lem c.args.b.now c.requires.0 c.args.i c.requires.1 in
    search rules

pub read_at-old-requires : goal.read_at-old-requires
read_at-old-requires c =
    let below : c.args.i < most_films = film_place_lem c.args.b.now c.requires.0 c.args.i c.requires.1 in
    search rules

pub returns : goal.returns
returns c =
    let a = c.args in
    let l = listing_of a.d.now a.syntax in
    c.box_with.ensures ∙ ap (box_with a.number l) (c.read_at-old.ensures ∙ box_read a.b.now c.requires.0 a.i c.requires.1 a.j c.requires.2)

pub box_with-requires : goal.box_with-requires
box_with-requires c = (c.requires.3, c.requires.4)
