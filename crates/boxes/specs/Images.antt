-- The image that a data set gives a box, and where the list of its only item stands.
use Rattle.std.specs.Prelude.{ℕ, ◌≤◌, ◌≡◌, List, length}
use Rattle.headers.specs.declared.Syntax.{Syntax}
use Rattle.rules.specs.declared.Image.{Image}
use Rattle.rules.specs.declared.Image.TheVariants.{Keeps, Erases, TooMany, Fills}
use Rattle.rules.specs.Attributes.{Listing, listing_of, only_item, value_of, pixel_bytes, image_in}

-- the item's list lies within so many bytes
abbrev pub ImageWithin : ℕ → Image → Type 0
ImageWithin n Keeps = Unit {0}
ImageWithin n Erases = Unit {0}
ImageWithin n TooMany = Unit {0}
ImageWithin n (Fills inside) = (inside.from ≤ inside.stop) × (inside.stop ≤ n)

-- the image is what the data set gives
abbrev pub ImageRead : List ℕ → Syntax → Image → Type 0
ImageRead d syntax image = (image ≡ image_in (listing_of d syntax)) × ImageWithin (length d) image

-- Pixel Data is no shorter than the pixels, as check 8 finds
abbrev pub PixelsFit : Listing → Image → Type 0
PixelsFit l Keeps = Unit {0}
PixelsFit l Erases = Unit {0}
PixelsFit l TooMany = Unit {0}
PixelsFit l (Fills inside) = pixel_bytes (only_item l inside) ≤ length (value_of (only_item l inside) 0x7FE0_0010)
