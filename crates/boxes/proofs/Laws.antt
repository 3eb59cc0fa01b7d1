-- The standings of an image's attributes, as numbers.
-- Assumes nothing.
use Prim.Native.Nat.{ℕ, ◌+◌, ◌-◌, ◌*◌, ◌<◌, ◌≤◌}
use mathlib.Core.Path.{◌≡◌, refl, sym, ap, subst, ◌∙◌}
use mathlib.Core.Bool.{Bool, true, false, ◌&&◌}
use mathlib.Core.List.{List, [], ◌∷◌}
use native.Mathlib.Omega.{arith}
use native.Mathlib.Nat.{mul-le-mul_right}
use lib.Dec.{eqb, leb}
use lib.ListN.{length, get_or, drop, replicate, length-take, get_or-replicate}
use borrow.Author.Tests.{le-ltb, leb-true}
use Rattle.choice.specs.Pick.{both}
use Rattle.choice.specs.Rules.{first_broken}
use Rattle.choice.proofs.Picks.{both_true, clash}
use Rattle.headers.specs.declared.Syntax.{Syntax}
use Rattle.headers.specs.declared.Part.{Part}
use Rattle.headers.specs.declared.Inside.{Inside}
use Rattle.headers.specs.declared.Scope.{Scope}
use Rattle.elements.specs.declared.Found.{Found}
use Rattle.elements.specs.declared.Found.TheVariants.{Missing, Sequence}
use Rattle.elements.specs.declared.Items.{Items}
use Rattle.elements.specs.declared.Items.TheVariants.{Empty, One, Several}
use Rattle.elements.specs.Reader.{scope_of, data_scope}
use Rattle.elements.specs.Find.{find_at, items_at}
use Rattle.elements.proofs.Within.{FoundIn, ItemsIn}
use Rattle.elements.proofs.Laws.{find_within, items_within}
use Rattle.rules.specs.Lists.{any}
use Rattle.rules.specs.Values.{no_bytes, blank, is_us, us_in, code_in, photometrics, polarities}
use Rattle.rules.specs.Commands.{placed, bytes_of}
use Rattle.rules.specs.declared.Image.{Image}
use Rattle.rules.specs.declared.Image.TheVariants.{Keeps, Erases, TooMany, Fills}
use Rattle.rules.specs.Attributes.{Listing, wrong, attribute_rules, listing, listing_of, only_item, look, value_of, us, mandatory, number, code, code_allowed, optional, or_kept, image_standings, sequence_standings, box_standings, image_in, image_found, image_of, is_fill, pixel_bytes, pixel_length, pixels, depth_allowed}
use Rattle.standings.specs.Severity.{kind_of, severity, severity_by, worse, worst, status_of}
use Rattle.standings.proofs.Laws.{found_place, mandatory_severity, optional_severity, given_by_lem, worst_none, worst_cons, worst_status, first_fine, fine_allowed}
use Rattle.boxes.specs.Images.{ImageWithin, PixelsFit}
use Rattle.boxes.specs.Founds.{PlacedIn, ItemIn, ItemOf, ImageItem, ItemRead, value_in, number_by, code_by, optional_code_by, length_by, kept_code, us_at, depth8_at, pixel_bytes_at, with_extents, with_depths, image_worst, sequence_worst, item_pixels_at}

pub number_severity : (allowed : ℕ → Bool) (l : Listing) (tag : ℕ)
    → severity (number allowed l tag) ≡ severity_by (kind_of (look l tag)) (no_bytes (value_of l tag)) (both (is_us (value_of l tag)) (allowed (us l tag)))
number_severity allowed l tag = mandatory_severity no_bytes (λ (v : List ℕ). both (is_us v) (allowed (us_in v))) l (look l tag)

number_found : (allowed : ℕ → Bool) (l : Listing) (tag : ℕ) → number_by allowed l.bytes (look l tag) ≡ severity (number allowed l tag)
unfolding number_by
number_found allowed l tag = sym (number_severity allowed l tag)

code_found : (texts : List (List ℕ)) (l : Listing) (tag : ℕ) → code_by texts l.bytes (look l tag) ≡ severity (code texts l tag)
unfolding code_by
code_found texts l tag = sym (mandatory_severity blank (code_allowed texts) l (look l tag))

optional_found_lem : (texts : List (List ℕ)) (l : Listing) (tag : ℕ) → optional_code_by texts l.bytes (look l tag) ≡ severity (optional (code texts l tag))
unfolding optional_code_by
optional_found_lem texts l tag = sym (optional_severity blank (code_allowed texts) l (look l tag))

length_found : (expected : ℕ) (l : Listing) (tag : ℕ) → length_by expected l.bytes (look l tag) ≡ severity (mandatory no_bytes (λ v. eqb (length v) expected) l (look l tag))
unfolding length_by
length_found expected l tag = sym (mandatory_severity no_bytes (λ (v : List ℕ). eqb (length v) expected) l (look l tag))

pub kept_found : (texts : List (List ℕ)) (l : Listing) (tag kept : ℕ) → kept_code texts l.bytes (look l tag) kept ≡ or_kept blank l tag (code_in texts) kept
unfolding kept_code
kept_found texts l tag kept = rw (given_by_lem blank l (look l tag))

-- the derived equality of the three numbers of a depth
and_both : (a b c : Bool) → a && (b && c) ≡ both a (both b c)
and_both true true c = refl
and_both true false c = refl
and_both false b c = refl

pub eight_told : (d : List ℕ) (item : List Found) (a s h : ℕ) {b : Bool} → b ≡ eqb a 8 && (eqb s 8 && eqb h 7) → a ≡ us_at d item 4 → s ≡ us_at d item 5 → h ≡ us_at d item 6 → b ≡ depth8_at d item
eight_told d item a s h e x y z = e ∙ and_both (eqb a 8) (eqb s 8) (eqb h 7) ∙ rw (x, y, z)

-- rows times columns
pub area_fits : (a b : ℕ) → a < 65536 → b < 65536 → a * b < 4294967296
area_fits a b h g = let m : a * b ≤ 65535 * b = mul-le-mul_right b (omega (arith, h)) in omega (arith, m, g)

worse_none : (n : ℕ) → worse n 0 ≡ n
unfolding worse
worse_none n = rw (le-ltb n 0 (omega arith))

module _ (l : Listing) (item : List Found) (h : ItemOf l item) where
  pixel_bytes_found : pixel_bytes_at l.bytes item ≡ pixel_bytes l
  pixel_bytes_found = rw (h 2 (omega arith), h 3 (omega arith), h 4 (omega arith), h 5 (omega arith), h 6 (omega arith))

  pub image_worst_lem : image_worst l.bytes item ≡ worst (image_standings l)
  unfolding image_worst with_extents with_depths image_standings
  image_worst_lem =
      rw (
        h 0 (omega arith),
        h 1 (omega arith),
        h 2 (omega arith),
        h 3 (omega arith),
        h 4 (omega arith),
        h 5 (omega arith),
        h 6 (omega arith),
        h 7 (omega arith),
        h 8 (omega arith),
        number_found (λ (n : ℕ). eqb n 1) l 0x0028_0002,
        code_found photometrics l 0x0028_0004,
        number_found (λ (n : ℕ). leb 1 n) l 0x0028_0010,
        number_found (λ (n : ℕ). leb 1 n) l 0x0028_0011,
        number_found (λ (n : ℕ). depth_allowed l) l 0x0028_0100,
        number_found (λ (n : ℕ). depth_allowed l) l 0x0028_0101,
        number_found (λ (n : ℕ). depth_allowed l) l 0x0028_0102,
        number_found (λ (n : ℕ). eqb n 0) l 0x0028_0103,
        length_found (pixel_length l) l 0x7FE0_0010,
      )
      (simp (worst_cons, worst_none, worse_none))

-- what was gathered lies within the data set
pub look_in : (d : List ℕ) (syntax : Syntax) (tag : ℕ) → PlacedIn (length d) (look (listing_of d syntax) tag)
look_in d syntax tag = found_place (length d) (find_at d (data_scope d syntax) tag) 8 (length d) (omega arith) (find_within d (data_scope d syntax) tag (omega arith))

pub item_in : (d : List ℕ) (scope : Scope) (item : List Found) → scope.inside.from ≤ scope.inside.stop → scope.inside.stop ≤ length d → ItemOf (listing d scope) item → ItemIn (length d) item
item_in d scope item f g h i l = rw (h i l) (found_place (length d) (find_at d scope _) (scope.inside.from + 8) scope.inside.stop g (find_within d scope _ f))

-- a sequence that was found lies within the data set
pub sequence_in : (d : List ℕ) (syntax : Syntax) (tag : ℕ) (inside : Inside) → find_at d (data_scope d syntax) tag ≡ Sequence inside
    → (inside.from ≤ inside.stop) × (inside.stop ≤ length d)
sequence_in d syntax tag inside e =
    let g = subst (FoundIn 8 (length d)) e (find_within d (data_scope d syntax) tag (omega arith)) in
    (g.1.0, g.1.1)

-- what the items of Image Sequence say
items_image_in : (n low end : ℕ) (items : Items) → end ≤ n → ItemsIn low end items → ImageWithin n (image_of items)
items_image_in n low end Empty h g = tt
items_image_in n low end (One inside) h g = (g.1.0, omega (arith, g.1.1, h))
items_image_in n low end (Several k) h g = tt

pub sequence_meant : (d : List ℕ) (syntax : Syntax) (inside : Inside) (image : Image) → find_at d (data_scope d syntax) 0x2020_0110 ≡ Sequence inside
    → image ≡ image_of (items_at d (scope_of syntax 3 inside)) → (image ≡ image_in (listing_of d syntax)) × ImageWithin (length d) image
unfolding image_in
sequence_meant d syntax inside image found e =
    let items = items_at d (scope_of syntax 3 inside) in
    let within = sequence_in d syntax 0x2020_0110 inside found in (
      e ∙ sym (ap (image_found (listing_of d syntax)) found),
      rw e (items_image_in (length d) (inside.from + 8) inside.stop items within.1 (items_within d (scope_of syntax 3 inside) within.0)),
    )

-- what is gathered of the only item, and nothing where there is none
nothing_in : (n : ℕ) → ItemIn n (replicate 9 Missing)
nothing_in n i l = rw (get_or-replicate 9 i Missing Missing l) (omega arith, omega arith)

pub keeps_read : (d : List ℕ) (syntax : Syntax) (image : Image) → is_fill image ≡ false → ItemRead d syntax image (replicate 9 Missing)
keeps_read d syntax Keeps e = (tt, nothing_in (length d))
keeps_read d syntax Erases e = (tt, nothing_in (length d))
keeps_read d syntax TooMany e = (tt, nothing_in (length d))
keeps_read d syntax (Fills inside) e = absurd (clash e refl)

pub item_read : (d : List ℕ) (syntax : Syntax) (image : Image) (inside : Inside) (item : List Found) → ImageWithin (length d) image → image ≡ Fills inside → ItemOf (listing d (scope_of syntax 3 inside)) item → ItemRead d syntax image item
item_read d syntax image inside item w e h =
    let within = subst (ImageWithin (length d)) e w in
    rw e (h, item_in d (scope_of syntax 3 inside) item within.0 within.1 h)

worst_wrong : worst (wrong ∷ []) ≡ 1
unfolding worst any
worst_wrong = refl

pub sequence_worst_lem : (l : Listing) (image : Image) (item : List Found) → ImageItem l image item → sequence_worst l.bytes image item ≡ worst (sequence_standings l image)
sequence_worst_lem l Keeps item h = sym worst_none
sequence_worst_lem l Erases item h = sym worst_none
sequence_worst_lem l TooMany item h = sym worst_wrong
sequence_worst_lem l (Fills inside) item h = image_worst_lem (only_item l inside) item h

box_worst : (boxes : ℕ) (l : Listing)
    → worst (box_standings boxes l)
    ≡ worse (severity (number (λ n. both (leb 1 n) (leb n boxes)) l 0x2020_0010)) (worse (severity (optional (code polarities l 0x2020_0020))) (worst (sequence_standings l (image_in l))))
unfolding box_standings
box_worst boxes l = simp (worst_cons)

-- by what the code has read
pub box_status_lem : (boxes : ℕ) (l : Listing) (position polarity : Found) (image : Image) (item : List Found)
    → position ≡ look l 0x2020_0010 → polarity ≡ look l 0x2020_0020 → image ≡ image_in l → ImageItem l image item
    → status_of (worse (number_by (λ n. both (leb 1 n) (leb n boxes)) l.bytes position) (worse (optional_code_by polarities l.bytes polarity) (sequence_worst l.bytes image item)))
    ≡ first_broken (attribute_rules (box_standings boxes l))
box_status_lem boxes l position polarity image item p q i h =
    ap status_of
    (rw (p, q, number_found (λ (n : ℕ). both (leb 1 n) (leb n boxes)) l 0x2020_0010, optional_found_lem polarities l 0x2020_0020, sequence_worst_lem l image item h, i) (sym (box_worst boxes l)))
    ∙ worst_status (box_standings boxes l)

-- a position that check 8 takes fits its field
pub position_fits : (boxes : ℕ) (l : Listing) → boxes ≤ 36 → first_broken (attribute_rules (box_standings boxes l)) ≡ 0 → us l 0x2020_0010 < 256
unfolding box_standings
position_fits boxes l h e =
    let n = us l 0x2020_0010 in
    let v = value_of l 0x2020_0010 in
    let fine = first_fine (number (λ k. both (leb 1 k) (leb k boxes)) l 0x2020_0010) (optional (code polarities l 0x2020_0020) ∷ sequence_standings l (image_in l)) e in
    let allowed = fine_allowed (kind_of (look l 0x2020_0010)) (no_bytes v) (both (is_us v) (both (leb 1 n) (leb n boxes))) (sym (number_severity (λ k. both (leb 1 k) (leb k boxes)) l 0x2020_0010) ∙ fine) in
    let most : n ≤ boxes = leb-true n boxes (both_true (leb 1 n) (leb n boxes) (both_true (is_us v) (both (leb 1 n) (leb n boxes)) allowed).1).1 in
    omega (arith, most, h)

-- The pixels.

part_short : (d : List ℕ) (p : Part) → length (bytes_of d p) ≤ p.stop - p.from
unfolding bytes_of
part_short d p = omega (arith, length-take (p.stop - p.from) (drop p.from d))

-- the pixels begin where Pixel Data does, and end within it
pub pixels_in_lem : (d : List ℕ) (item : List Found) (at : Part) (bytes : ℕ) → at ≡ placed (get_or item 8 Missing) → bytes ≡ pixel_bytes_at d item → pixel_bytes_at d item ≤ length (value_in d (get_or item 8 Missing))
    → PlacedIn (length d) (get_or item 8 Missing)
    → (record { from = at.from; stop = at.from + bytes } ≡ item_pixels_at d item) × (at.from ≤ at.from + bytes) × (at.from + bytes ≤ length d)
pixels_in_lem d item at bytes e f fit within =
    let most : bytes ≤ length (bytes_of d at) = rw (f, e) fit in
    let h : at.from ≤ at.stop = rw e within.0 in
    let g : at.stop ≤ length d = rw e within.1 in
    (rw (e, f), omega arith, omega (arith, most, part_short d at, h, g))

-- what was gathered of the item that fills the box says what the item does
module _ (l : Listing) (image : Image) (item : List Found) {inside : Inside} (e : image ≡ Fills inside) (h : ImageItem l image item) where
  filled : ItemOf (only_item l inside) item
  filled = subst (λ i. ImageItem l i item) e h

  pub fits_found : PixelsFit l image → pixel_bytes_at l.bytes item ≤ length (value_in l.bytes (get_or item 8 Missing))
  fits_found fit = rw (pixel_bytes_found (only_item l inside) item filled, filled 8 (omega arith)) (subst (PixelsFit l) e fit)

  pub image_pixels : item_pixels_at l.bytes item ≡ pixels l image
  image_pixels = rw (e, pixel_bytes_found (only_item l inside) item filled, filled 8 (omega arith))
