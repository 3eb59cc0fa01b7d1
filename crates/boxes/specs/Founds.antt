-- What was gathered for a box and of the only item of its Image Sequence, and what its values say.
use Rattle.std.specs.Prelude.{ℕ, ◌+◌, ◌*◌, ◌%◌, ◌≤◌, ◌<◌, ◌≡◌, Bool, List, [], ◌∷◌, eqb, leb, length, get_or}
use Rattle.choice.specs.Pick.{pick, both, either}
use Rattle.headers.specs.declared.Syntax.{Syntax}
use Rattle.headers.specs.declared.Part.{Part}
use Rattle.elements.specs.declared.Found.{Found}
use Rattle.elements.specs.declared.Found.TheVariants.{Missing}
use Rattle.finding.specs.Gathered.{Gathered}
use Rattle.rules.specs.declared.Image.{Image}
use Rattle.rules.specs.declared.Image.TheVariants.{Keeps, Erases, TooMany, Fills}
use Rattle.rules.specs.Values.{no_bytes, blank, is_us, us_in, code_in, photometrics}
use Rattle.rules.specs.Commands.{placed}
use Rattle.rules.specs.Attributes.{Listing, listing_of, only_item, look, code_allowed}
use Rattle.standings.specs.Severity.{worse}
use Rattle.standings.specs.Founds.{bytes_found, mandatory_found, optional_found, found_or}
use Rattle.boxes.specs.declared.BoxFound.{BoxFound}
use Rattle.boxes.specs.Images.{ImageRead}

-- What is gathered.

-- the attributes of an item, in their order
abbrev pub item_tags : List ℕ
item_tags =
    0x0028_0002
    ∷ 0x0028_0004
    ∷ 0x0028_0010
    ∷ 0x0028_0011
    ∷ 0x0028_0100
    ∷ 0x0028_0101
    ∷ 0x0028_0102
    ∷ 0x0028_0103
    ∷ 0x7FE0_0010
    ∷ []

-- what a data set holds for a box
pub record BoxRead (d : List ℕ) (syntax : Syntax) (found : BoxFound) : Type 0 where
  pub position : found.position ≡ look (listing_of d syntax) 0x2020_0010
  pub polarity : found.polarity ≡ look (listing_of d syntax) 0x2020_0020
  pub image : ImageRead d syntax found.image

-- a value lies within so many bytes
abbrev pub PlacedIn : ℕ → Found → Type 0
PlacedIn n f = ((placed f).from ≤ (placed f).stop) × ((placed f).stop ≤ n)

abbrev pub ItemIn : ℕ → List Found → Type 0
ItemIn n item = (i : ℕ) → i < 9 → PlacedIn n (get_or item i Missing)

-- what a list of attributes holds of an item's
abbrev pub ItemOf : Listing → List Found → Type 0
ItemOf l item = Gathered l.bytes l.scope item_tags 9 item

-- what the only item holds, where there is one
abbrev pub ImageItem : Listing → Image → List Found → Type 0
ImageItem l Keeps item = Unit {0}
ImageItem l Erases item = Unit {0}
ImageItem l TooMany item = Unit {0}
ImageItem l (Fills inside) item = ItemOf (only_item l inside) item

abbrev pub ItemRead : List ℕ → Syntax → Image → List Found → Type 0
ItemRead d syntax image item = ImageItem (listing_of d syntax) image item × ItemIn (length d) item

-- What a value says.

abbrev pub value_in : List ℕ → Found → List ℕ
value_in d f = bytes_found d f

-- how a mandatory number stands
unfoldable pub number_by : (ℕ → Bool) → List ℕ → Found → ℕ
number_by allowed d f = mandatory_found no_bytes (λ v. both (is_us v) (allowed (us_in v))) d f

unfoldable pub code_by : List (List ℕ) → List ℕ → Found → ℕ
code_by texts d f = mandatory_found blank (code_allowed texts) d f

unfoldable pub optional_code_by : List (List ℕ) → List ℕ → Found → ℕ
optional_code_by texts d f = optional_found (code_allowed texts) d f

unfoldable pub length_by : ℕ → List ℕ → Found → ℕ
length_by expected d f = mandatory_found no_bytes (λ v. eqb (length v) expected) d f

-- what a code gives, or what is kept where it is absent
unfoldable pub kept_code : List (List ℕ) → List ℕ → Found → ℕ → ℕ
kept_code texts d f kept = found_or (code_in texts) d f kept

-- What an item says.

abbrev pub value_at : List ℕ → List Found → ℕ → List ℕ
value_at d item i = value_in d (get_or item i Missing)

abbrev pub us_at : List ℕ → List Found → ℕ → ℕ
us_at d item i = us_in (value_at d item i)

abbrev pub depth8_at : List ℕ → List Found → Bool
depth8_at d item = both (eqb (us_at d item 4) 8) (both (eqb (us_at d item 5) 8) (eqb (us_at d item 6) 7))

abbrev pub depth_allowed_at : List ℕ → List Found → Bool
depth_allowed_at d item = either (depth8_at d item) (both (eqb (us_at d item 4) 16) (both (eqb (us_at d item 5) 12) (eqb (us_at d item 6) 11)))

abbrev pub pixel_bytes_at : List ℕ → List Found → ℕ
pixel_bytes_at d item = us_at d item 2 * us_at d item 3 * pick (depth8_at d item) 1 2

-- the worst of these attributes and others
unfoldable pub with_extents : List ℕ → List Found → ℕ → ℕ
with_extents d item others =
    worse (number_by (λ n. eqb n 1) d (get_or item 0 Missing))
    (worse (code_by photometrics d (get_or item 1 Missing))
    (worse (number_by (λ n. leb 1 n) d (get_or item 2 Missing)) (worse (number_by (λ n. leb 1 n) d (get_or item 3 Missing)) others)))

unfoldable pub with_depths : List ℕ → List Found → Bool → ℕ → ℕ
with_depths d item allowed others =
    worse (number_by (λ n. allowed) d (get_or item 4 Missing))
    (worse (number_by (λ n. allowed) d (get_or item 5 Missing)) (worse (number_by (λ n. allowed) d (get_or item 6 Missing)) others))

unfoldable pub image_worst : List ℕ → List Found → ℕ
image_worst d item =
    with_extents d item
    (with_depths d item (depth_allowed_at d item)
    (worse (number_by (λ n. eqb n 0) d (get_or item 7 Missing)) (length_by (pixel_bytes_at d item + pixel_bytes_at d item % 2) d (get_or item 8 Missing))))

abbrev pub sequence_worst : List ℕ → Image → List Found → ℕ
sequence_worst d Keeps item = 0
sequence_worst d Erases item = 0
sequence_worst d TooMany item = 1
sequence_worst d (Fills inside) item = image_worst d item

abbrev pub item_pixels_at : List ℕ → List Found → Part
item_pixels_at d item = record { from = (placed (get_or item 8 Missing)).from; stop = (placed (get_or item 8 Missing)).from + pixel_bytes_at d item }
