use mathlib.Core.Path.{refl, sym, ◌∙◌}
use native.Mathlib.Omega.{arith}
use borrow.Author.Tests.{le-leb, lt-leb}
use Rattle.rules.specs.Layout.{serial_format, name_format, film_format}
use Rattle.names.proofs.Tests.{first_passes, first_fails, last_told, told_is, tests}
use Rattle.films.proofs.Lines.{boxes_most}
use Rattle.films.proofs.Films.{film_told}
use Rattle.films.proofs.film_sound.Goals as goal

pub boxes_fit-requires : goal.boxes_fit-requires
unfolding film_format name_format serial_format
boxes_fit-requires c =
    let x = c.layout_sound in
    let most = boxes_most (film_format.read c.args.b.now c.args.p).layout (sym x.ensures ∙ c.if-not-layout_sound.false) in
    (omega arith, omega (arith, c.box_count-count.ensures.0), c.requires.2)

pub returns-then-not-name_sound : goal.returns-then-not-name_sound
returns-then-not-name_sound c =
    film_told c.args.b.now c.args.p _ _ _ refl refl refl (search tests depth 12)

pub returns-then-not-layout_sound : goal.returns-then-not-layout_sound
returns-then-not-layout_sound c =
    film_told c.args.b.now c.args.p _ _ _ refl refl refl (search tests depth 12)

pub returns-then-b-p2-gt1 : goal.returns-then-b-p2-gt1
returns-then-b-p2-gt1 c =
    film_told c.args.b.now c.args.p _ _ _ refl refl refl (search tests depth 12)

pub returns-then-b-p3-gt3 : goal.returns-then-b-p3-gt3
returns-then-b-p3-gt3 c =
    film_told c.args.b.now c.args.p _ _ _ refl refl refl (search tests depth 12)

pub returns-then-first-lt1 : goal.returns-then-first-lt1
returns-then-first-lt1 c =
    film_told c.args.b.now c.args.p _ _ _ c.first_at-first.ensures.0 refl c.requires.1 (search tests depth 12)

pub returns-then-serial-first : goal.returns-then-serial-first
returns-then-serial-first c =
    film_told c.args.b.now c.args.p _ _ _ c.first_at-first.ensures.0 c.box_count-count.ensures.0 c.requires.1
    (first_passes _ _ _ _ (told_is _ _ c.name_sound.ensures c.if-not-name_sound.false)
    (first_passes _ _ _ _ (told_is _ _ c.layout_sound.ensures c.if-not-layout_sound.false)
    (first_passes _ _ _ _ (le-leb _ _ c.if-b-p2-gt1.false)
    (first_passes _ _ _ _ (le-leb _ _ c.if-b-p3-gt3.false)
    (first_passes _ _ _ _ (le-leb _ _ c.if-first-lt1.false)
    (first_fails _ _ _ (lt-leb _ _ c.if-serial-first.true)))))))

pub returns : goal.returns
returns c =
    film_told c.args.b.now c.args.p _ _ _ c.first_at-first.ensures.0 c.box_count-count.ensures.0 c.requires.1
    (first_passes _ _ _ _ (told_is _ _ c.name_sound.ensures c.if-not-name_sound.false)
    (first_passes _ _ _ _ (told_is _ _ c.layout_sound.ensures c.if-not-layout_sound.false)
    (first_passes _ _ _ _ (le-leb _ _ c.if-b-p2-gt1.false)
    (first_passes _ _ _ _ (le-leb _ _ c.if-b-p3-gt3.false)
    (first_passes _ _ _ _ (le-leb _ _ c.if-first-lt1.false)
    (first_passes _ _ _ _ (le-leb _ _ c.if-serial-first.false) (last_told _ _ _ c.boxes_fit.ensures)))))))
