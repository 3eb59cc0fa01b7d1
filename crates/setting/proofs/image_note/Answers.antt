use mathlib.Core.Path.{sym, ap, subst, ◌∙◌}
use Rattle.rules.specs.Attributes.{listing_of, image_in, pixels}
use Rattle.boxes.specs.Images.{PixelsFit}
use Rattle.setting.proofs.Laws.{fill_by, note_fills}
use Rattle.setting.proofs.image_note.Goals as goal

pub returns-then-not-is_fill : goal.returns-then-not-is_fill
returns-then-not-is_fill c =
    let a = c.args in
    let fills = c.is_fill in
    rw (fill_by a.d.now a.syntax a.image fills.result c.requires.1.0 fills.ensures ∙ c.if-not-is_fill.true)

pub pixels-at-requires : goal.pixels-at-requires
pixels-at-requires c =
    let p = c.requires in
    let l = listing_of c.args.d.now c.args.syntax in
    (p.2, subst (PixelsFit l) (sym p.1.0) p.3)

pub returns : goal.returns
returns c =
    let a = c.args in
    let e = c.requires.1.0 in
    let l = listing_of a.d.now a.syntax in
    let fills = c.is_fill in
    note_fills a.number l (image_in l) c.pixels-at.result (fill_by a.d.now a.syntax a.image fills.result e fills.ensures ∙ c.if-not-is_fill.false) (c.pixels-at.ensures.0 ∙ ap (pixels l) e)
