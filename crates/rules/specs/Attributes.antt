-- The records, rules 7.1 to 7.14 and check 8 (docs/RULES.md): what a data set says for a session, a film and a box.
use Rattle.std.specs.Prelude.{ℕ, ◌+◌, ◌*◌, ◌%◌, Bool, true, false, List, [], ◌∷◌, ◌++◌, eqb, leb, ltb, length}
use Rattle.choice.specs.Pick.{pick, both, either, not}
use Rattle.choice.specs.Rules.{Rule, ◌⇒◌}
use Rattle.octets.specs.Octets.{same}
use Rattle.uids.specs.Uids.{is_uid, unpadded}
use Rattle.headers.specs.declared.Syntax.{Syntax}
use Rattle.headers.specs.declared.Part.{Part}
use Rattle.headers.specs.declared.Inside.{Inside}
use Rattle.headers.specs.declared.Scope.{Scope}
use Rattle.elements.specs.declared.Found.{Found}
use Rattle.elements.specs.declared.Found.TheVariants.{Missing, Value, Sequence}
use Rattle.elements.specs.declared.Items.{Items}
use Rattle.elements.specs.declared.Items.TheVariants.{Empty, One, Several}
use Rattle.elements.specs.Reader.{deeper, data_scope}
use Rattle.elements.specs.Find.{find_at, items_at}
use Rattle.rules.specs.declared.Session.{Session}
use Rattle.rules.specs.declared.ImageBox.{ImageBox}
use Rattle.rules.specs.declared.Layout.{Layout}
use Rattle.rules.specs.declared.Film.{Film}
use Rattle.rules.specs.declared.Core.{Core}
use Rattle.rules.specs.declared.Image.{Image}
use Rattle.rules.specs.declared.Image.TheVariants.{Keeps, Erases, TooMany, Fills}
use Rattle.rules.specs.Text.{session_class}
use Rattle.rules.specs.Lists.{any, place_of, filled_to}
use Rattle.rules.specs.Values.{trimmed, no_bytes, blank, count_in, kind_in, code_in, priorities, media, destinations, orientations, magnifications, polarities, photometrics, label_allowed, counts_in, is_us, us_in}
use Rattle.rules.specs.Records.{picture, sessions_of, session_named}
use Rattle.rules.specs.Commands.{no_part, placed, bytes_of}

-- A list of attributes: the bytes that it lies in, and its scope there.
pub record Listing : Type 0 where
  pub bytes : List ℕ
  pub scope : Scope

abbrev pub listing : List ℕ → Scope → Listing
listing bytes scope = record { bytes = bytes; scope = scope }

abbrev pub listing_of : List ℕ → Syntax → Listing
listing_of d syntax = listing d (data_scope d syntax)

abbrev pub look : Listing → ℕ → Found
look l tag = find_at l.bytes l.scope tag

abbrev pub value_of : Listing → ℕ → List ℕ
value_of l tag = bytes_of l.bytes (placed (look l tag))

-- the items of a sequence, none of which is seen where there is no such sequence
abbrev pub items_found : Listing → Found → Items
items_found l Missing = Empty
items_found l (Value p) = Empty
items_found l (Sequence inside) = items_at l.bytes (deeper l.scope inside)

abbrev pub items_in : Listing → ℕ → Items
items_in l tag = items_found l (look l tag)

-- the list of an only item
abbrev pub only_item : Listing → Inside → Listing
only_item l inside = listing l.bytes (deeper l.scope inside)

-- How an attribute stands.

pub data Standing : Type 0 where
  missing empty wrong fine : Standing

abbrev pub fine_if : Bool → Standing
fine_if allowed = pick allowed fine wrong

-- a mandatory value, by the tests that it is empty and that it is allowed
abbrev pub mandatory : (List ℕ → Bool) → (List ℕ → Bool) → Listing → Found → Standing
mandatory is_empty allowed l Missing = missing
mandatory is_empty allowed l (Value p) = pick (is_empty (bytes_of l.bytes p)) empty (fine_if (allowed (bytes_of l.bytes p)))
mandatory is_empty allowed l (Sequence inside) = wrong

-- "Optional empty values .. count as absent"
abbrev pub optional : Standing → Standing
optional missing = fine
optional empty = fine
optional wrong = wrong
optional fine = fine

abbrev pub is : Standing → Standing → Bool
is missing missing = true
is missing empty = false
is missing wrong = false
is missing fine = false
is empty missing = false
is empty empty = true
is empty wrong = false
is empty fine = false
is wrong missing = false
is wrong empty = false
is wrong wrong = true
is wrong fine = false
is fine missing = false
is fine empty = false
is fine wrong = false
is fine fine = true

-- check 8: "any mandatory attribute missing 0120H; else any empty 0121H; else any value not allowed 0106H"
abbrev pub attribute_rules : List Standing → List Rule
attribute_rules standings =
    (any (is missing) standings ⇒ 0x0120)
    ∷ (any (is empty) standings ⇒ 0x0121)
    ∷ (any (is wrong) standings ⇒ 0x0106)
    ∷ []

-- an attribute is there, with a value
abbrev pub given : (List ℕ → Bool) → Listing → Found → Bool
given is_empty l Missing = false
given is_empty l (Value p) = not (is_empty (bytes_of l.bytes p))
given is_empty l (Sequence inside) = true

-- what an attribute gives, or what is kept where it is absent
abbrev pub or_kept : {A : Type 0} → (List ℕ → Bool) → Listing → ℕ → (List ℕ → A) → A → A
or_kept is_empty l tag read kept = pick (given is_empty l (look l tag)) (read (value_of l tag)) kept

-- The kinds of values.

abbrev pub code_allowed : List (List ℕ) → List ℕ → Bool
code_allowed texts v = ltb (code_in texts v) (length texts)

abbrev pub code : List (List ℕ) → Listing → ℕ → Standing
code texts l tag = mandatory blank (code_allowed texts) l (look l tag)

abbrev pub number : (ℕ → Bool) → Listing → ℕ → Standing
number allowed l tag = mandatory no_bytes (λ v. both (is_us v) (allowed (us_in v))) l (look l tag)

abbrev pub uid : (List ℕ → Bool) → Listing → ℕ → Standing
uid allowed l tag = mandatory no_bytes (λ v. both (is_uid (unpadded v)) (allowed (unpadded v))) l (look l tag)

-- Session.

unfoldable pub session_standings : Listing → List Standing
session_standings l =
    optional (mandatory blank (λ v. not (eqb (count_in 99 v) 0)) l (look l 0x2000_0010))
    ∷ optional (code priorities l 0x2000_0020)
    ∷ optional (code media l 0x2000_0030)
    ∷ optional (code destinations l 0x2000_0040)
    ∷ optional (mandatory blank label_allowed l (look l 0x2000_0050))
    ∷ []

-- a session with what the data set gives
unfoldable pub session_with : Listing → Session → Session
session_with l s = record {
  live = s.live;
  name = s.name;
  copies = or_kept blank l 0x2000_0010 (count_in 99) s.copies;
  priority = or_kept blank l 0x2000_0020 (code_in priorities) s.priority;
  medium = or_kept blank l 0x2000_0030 (code_in media) s.medium;
  destination = or_kept blank l 0x2000_0040 (code_in destinations) s.destination;
  used = or_kept blank l 0x2000_0050 (λ v. length (trimmed v)) s.used;
  label = or_kept blank l 0x2000_0050 (λ v. filled_to 64 0 (trimmed v)) s.label;
}

-- Film.

-- "naming the live session"
abbrev pub reference_standings : Core → Listing → Items → List Standing
reference_standings k l Empty = empty ∷ []
reference_standings k l (One inside) =
    uid (same session_class) (only_item l inside) 0x0008_1150
    ∷ uid (λ u. any (session_named k.numbers u) (sessions_of k)) (only_item l inside) 0x0008_1155
    ∷ []
reference_standings k l (Several n) = wrong ∷ []

abbrev pub reference : Core → Listing → Found → List Standing
reference k l Missing = missing ∷ []
reference k l (Value p) = wrong ∷ []
reference k l (Sequence inside) = reference_standings k l (items_found l (Sequence inside))

-- the UID that it names
abbrev pub referenced : Listing → Items → List ℕ
referenced l Empty = []
referenced l (One inside) = unpadded (value_of (only_item l inside) 0x0008_1155)
referenced l (Several n) = []

-- the place of the session that has this UID
unfoldable pub session_in : Core → Listing → ℕ
session_in k l = place_of (session_named k.numbers (referenced l (items_in l 0x2010_0500))) (sessions_of k)

unfoldable pub optional_film : Listing → List Standing
optional_film l = optional (code orientations l 0x2010_0040) ∷ optional (code magnifications l 0x2010_0060) ∷ []

unfoldable pub film_create_standings : Core → Listing → List Standing
film_create_standings k l =
    mandatory blank (λ v. not (eqb (length (counts_in v)) 0)) l (look l 0x2010_0010)
    ∷ (reference k l (look l 0x2010_0500) ++ optional_film l)

-- "The first two in N-SET, even empty: 0106H."
abbrev pub must_be_absent : Found → Standing
must_be_absent Missing = fine
must_be_absent (Value p) = wrong
must_be_absent (Sequence inside) = wrong

unfoldable pub film_set_standings : Listing → List Standing
film_set_standings l = must_be_absent (look l 0x2010_0010) ∷ must_be_absent (look l 0x2010_0500) ∷ optional_film l

unfoldable pub film_with : Listing → Film → Film
film_with l f = record {
  name = f.name;
  session = f.session;
  layout = f.layout;
  orientation = or_kept blank l 0x2010_0040 (code_in orientations) f.orientation;
  magnification = or_kept blank l 0x2010_0060 (code_in magnifications) f.magnification;
  first = f.first;
  boxes = f.boxes;
}

-- lines of so many boxes each
abbrev pub layout_from : ℕ → List ℕ → Layout
layout_from kind counts = record { kind = kind; lines = length counts; counts = filled_to 6 0 counts }

unfoldable pub layout_in : Listing → Layout
layout_in l = layout_from (kind_in (value_of l 0x2010_0010)) (counts_in (value_of l 0x2010_0010))

-- Box.

abbrev pub us : Listing → ℕ → ℕ
us l tag = us_in (value_of l tag)

-- 8,8,7 or 16,12,11
abbrev pub depth8 : Listing → Bool
depth8 l = both (eqb (us l 0x0028_0100) 8) (both (eqb (us l 0x0028_0101) 8) (eqb (us l 0x0028_0102) 7))

abbrev pub depth16 : Listing → Bool
depth16 l = both (eqb (us l 0x0028_0100) 16) (both (eqb (us l 0x0028_0101) 12) (eqb (us l 0x0028_0102) 11))

abbrev pub depth_allowed : Listing → Bool
depth_allowed l = either (depth8 l) (depth16 l)

-- the bytes of the pixels: "rows × columns × 1 or 2"
abbrev pub pixel_bytes : Listing → ℕ
pixel_bytes l = us l 0x0028_0010 * us l 0x0028_0011 * pick (depth8 l) 1 2

-- the length of Pixel Data: "where the product is odd .. the product plus one" (R-3)
abbrev pub pixel_length : Listing → ℕ
pixel_length l = pixel_bytes l + pixel_bytes l % 2

-- "All of an item is mandatory"
unfoldable pub image_standings : Listing → List Standing
image_standings l =
    number (λ n. eqb n 1) l 0x0028_0002
    ∷ code photometrics l 0x0028_0004
    ∷ number (λ n. leb 1 n) l 0x0028_0010
    ∷ number (λ n. leb 1 n) l 0x0028_0011
    ∷ number (λ n. depth_allowed l) l 0x0028_0100
    ∷ number (λ n. depth_allowed l) l 0x0028_0101
    ∷ number (λ n. depth_allowed l) l 0x0028_0102
    ∷ number (λ n. eqb n 0) l 0x0028_0103
    ∷ mandatory no_bytes (λ v. eqb (length v) (pixel_length l)) l (look l 0x7FE0_0010)
    ∷ []

-- "no item erases, one fills with the next picture number, more is 0106H"
abbrev pub image_of : Items → Image
image_of Empty = Erases
image_of (One inside) = Fills inside
image_of (Several n) = TooMany

abbrev pub image_found : Listing → Found → Image
image_found l Missing = Keeps
image_found l (Value p) = TooMany
image_found l (Sequence inside) = image_of (items_found l (Sequence inside))

unfoldable pub image_in : Listing → Image
image_in l = image_found l (look l 0x2020_0110)

abbrev pub sequence_standings : Listing → Image → List Standing
sequence_standings l Keeps = []
sequence_standings l Erases = []
sequence_standings l TooMany = wrong ∷ []
sequence_standings l (Fills inside) = image_standings (only_item l inside)

-- "Position (2020,0010) US, mandatory in N-SET, 1 to C×R"
unfoldable pub box_standings : ℕ → Listing → List Standing
box_standings boxes l =
    number (λ n. both (leb 1 n) (leb n boxes)) l 0x2020_0010
    ∷ optional (code polarities l 0x2020_0020)
    ∷ sequence_standings l (image_in l)

-- the picture of a box, where `next` is the next picture number
abbrev pub picture_after : ℕ → Image → ℕ → ℕ
picture_after next Keeps old = old
picture_after next Erases old = 0
picture_after next TooMany old = old
picture_after next (Fills inside) old = next

unfoldable pub box_with : ℕ → Listing → ImageBox → ImageBox
box_with next l b = record {
  position = us l 0x2020_0010;
  polarity = or_kept blank l 0x2020_0020 (code_in polarities) b.polarity;
  picture = picture (picture_after next (image_in l) b.picture.0);
}

abbrev pub is_fill : Image → Bool
is_fill Keeps = false
is_fill Erases = false
is_fill TooMany = false
is_fill (Fills inside) = true

-- where the pixels lie in the message buffer, without a byte of padding (R-3)
abbrev pub item_pixels : Listing → Part
item_pixels item = record { from = (placed (look item 0x7FE0_0010)).from; stop = (placed (look item 0x7FE0_0010)).from + pixel_bytes item }

abbrev pub pixels : Listing → Image → Part
pixels l Keeps = no_part
pixels l Erases = no_part
pixels l TooMany = no_part
pixels l (Fills inside) = item_pixels (only_item l inside)
