use mathlib.Core.Path.{subst}
use mathlib.Core.Bool.{Bool}
use native.Mathlib.Omega.{arith}
use Rattle.rules.specs.Attributes.{listing_of}
use Rattle.records.specs.Places.{core_in}
use Rattle.changes.specs.Changes.{PictureLeft}
use Rattle.setting.proofs.Laws.{fill_by, boxes_few, position_small, picture_left, pixels_fit, box_stored, box_fits}
use Rattle.setting.proofs.box_stored.Goals as goal

pub number_used-number-requires : goal.number_used-number-requires
number_used-number-requires c =
    let a = c.args in
    let p = c.requires in
    let k = core_in a.b.now in
    let l = listing_of a.d.now a.syntax in
    let told = fill_by a.d.now a.syntax a.found.image c.is_fill-fills.result p.5.image.0 c.is_fill-fills.ensures in
    subst (λ (fills : Bool). PictureLeft k fills) told (picture_left k a.i l p.0.1.0 p.1 p.3)

pub box_anew-image_box-requires : goal.box_anew-image_box-requires
box_anew-image_box-requires c =
    let a = c.args in
    let p = c.requires in
    let k = core_in a.b.now in
    let l = listing_of a.d.now a.syntax in
    (p.0.1.0, p.1, omega (arith, boxes_few k a.i p.0.1.0 p.1, p.2), position_small k a.i l p.0.1.0 p.1 p.3, p.5)

pub image_note-note-requires : goal.image_note-note-requires
image_note-note-requires c =
    let a = c.args in
    let p = c.requires in
    let l = listing_of a.d.now a.syntax in
    (p.4, p.5.image, p.6, pixels_fit (core_in a.b.now) a.i l p.0.1.0 p.1 p.3)

pub returns : goal.returns
returns c =
    let a = c.args in
    let p = c.requires in
    let k = core_in a.b.now in
    let l = listing_of a.d.now a.syntax in
    let fills = c.is_fill-fills.result in
    let told = fill_by a.d.now a.syntax a.found.image fills p.5.image.0 c.is_fill-fills.ensures in (
      box_stored k a.i a.j l fills told _ c.number_used-number.ensures a.name _ c.box_anew-image_box.ensures _ c.change_by-change.ensures _ c.image_note-note.ensures,
      box_fits k a.i a.j _ fills _ c.change_by-change.ensures p.1 (omega (arith, boxes_few k a.i p.0.1.0 p.1, p.2))
          (subst (λ (fills : Bool). PictureLeft k fills) told (picture_left k a.i l p.0.1.0 p.1 p.3)),
    )
