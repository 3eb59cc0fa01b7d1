use mathlib.Core.Path.{◌∙◌}
use Rattle.rules.specs.Attributes.{listing_of}
use Rattle.boxes.proofs.Laws.{fits_found, image_pixels}
use Rattle.boxes.proofs.pixels.Goals as goal

pub item_pixels-requires : goal.item_pixels-requires
item_pixels-requires c =
    (c.requires.0.1, fits_found (listing_of c.args.d.now c.args.syntax) _ _ c.in-Fills.is c.requires.0.0 c.requires.1)

pub returns-in-Fills : goal.returns-in-Fills
returns-in-Fills c =
    (c.item_pixels.ensures.0 ∙ image_pixels (listing_of c.args.d.now c.args.syntax) _ _ c.in-Fills.is c.requires.0.0, c.item_pixels.ensures.1, c.item_pixels.ensures.2)
