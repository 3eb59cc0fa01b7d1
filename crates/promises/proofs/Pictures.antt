-- A picture that check 8 takes: the note covers the first bytes of Pixel Data, within the data set, and at most one byte is left over (R-3).
-- Assumes nothing.
use Prim.Native.Nat.{ℕ, ◌+◌, ◌-◌, ◌≤◌, ◌<◌, ◌%◌}
use mathlib.Core.Path.{◌≡◌, sym, ap, subst, ◌∙◌}
use mathlib.Core.List.{List}
use native.Mathlib.Omega.{arith}
use native.Mathlib.Nat.{mod-lt}
use lib.Dec.{eqb}
use lib.ListN.{length, take, drop, length-take}
use lib.Seq.{take-take}
use borrow.Author.Tests.{eqb-true}
use Rattle.choice.proofs.Picks.{Kept}
use Rattle.headers.specs.declared.Part.{Part}
use Rattle.headers.specs.declared.Inside.{Inside}
use Rattle.elements.specs.declared.Found.{Found}
use Rattle.elements.specs.declared.Found.TheVariants.{Missing, Value, Sequence}
use Rattle.elements.specs.declared.Items.{Items}
use Rattle.elements.specs.declared.Items.TheVariants.{Empty, One, Several}
use Rattle.elements.specs.Reader.{deeper}
use Rattle.elements.proofs.Within.{FoundIn, ItemsIn}
use Rattle.elements.proofs.Laws.{find_within, items_within}
use Rattle.rules.specs.Values.{no_bytes}
use Rattle.rules.specs.Commands.{placed, bytes_of}
use Rattle.rules.specs.declared.Image.{Image}
use Rattle.rules.specs.declared.Image.TheVariants.{Keeps, Erases, TooMany, Fills}
use Rattle.rules.specs.Attributes.{Listing, look, value_of, items_found, only_item, attribute_rules, image_of, image_found, image_in, image_standings, sequence_standings, box_standings, pixel_bytes, pixel_length, pixels}
use Rattle.promises.proofs.Standings.{AllFine, kept_fine, mandatory_fine}

data_fine : (item : Listing) → AllFine (image_standings item) → length (value_of item 0x7FE0_0010) ≡ pixel_length item
unfolding image_standings
data_fine item h =
    eqb-true (length (value_of item 0x7FE0_0010)) (pixel_length item)
    (mandatory_fine no_bytes (λ v. eqb (length v) (pixel_length item)) item (look item 0x7FE0_0010) h.1.1.1.1.1.1.1.1.0)

image_fine : (boxes : ℕ) (l : Listing) → AllFine (box_standings boxes l) → AllFine (sequence_standings l (image_in l))
unfolding box_standings
image_fine boxes l h = h.1.1

-- the first bytes of a part that is as long as that
part_first : (d : List ℕ) (p : Part) (n : ℕ) → n ≤ length (bytes_of d p) → bytes_of d (record { from = p.from; stop = p.from + n }) ≡ take n (bytes_of d p)
unfolding bytes_of
part_first d p n h =
    let e : p.from + n - p.from ≡ n = omega arith in
    ap (λ m. take m (drop p.from d)) e
    ∙ sym (take-take n (p.stop - p.from) (drop p.from d) (omega (arith, h, length-take (p.stop - p.from) (drop p.from d))))

-- where a value stands that lies within a list
placed_in : (low end : ℕ) (f : Found) → FoundIn low end f → ((placed f).from ≤ (placed f).stop) × ((placed f).stop ≤ end)
placed_in low end Missing h = (omega arith, omega arith)
placed_in low end (Value p) h = h.1
placed_in low end (Sequence inside) h = (omega arith, omega arith)

-- the item that fills lies within its list
abbrev ItemIn : ℕ → Image → Type 0
ItemIn end Keeps = Unit {0}
ItemIn end Erases = Unit {0}
ItemIn end TooMany = Unit {0}
ItemIn end (Fills inside) = (inside.from ≤ inside.stop) × (inside.stop ≤ end)

items_in_lem : (low end stop : ℕ) (items : Items) → end ≤ stop → ItemsIn low end items → ItemIn stop (image_of items)
items_in_lem low end stop Empty k h = tt
items_in_lem low end stop (One inside) k h = (h.1.0, omega (arith, h.1.1))
items_in_lem low end stop (Several n) k h = tt

image_in_lem : (l : Listing) (low end : ℕ) (f : Found) → FoundIn low end f → ItemIn end (image_found l f)
image_in_lem l low end Missing h = tt
image_in_lem l low end (Value p) h = tt
image_in_lem l low end (Sequence inside) h =
    items_in_lem (inside.from + 8) inside.stop end (items_found l (Sequence inside)) h.1.1 (items_within l.bytes (deeper l.scope inside) h.1.0)

module _ (boxes : ℕ) (l : Listing) (inside : Inside) (kept : Kept (attribute_rules (box_standings boxes l))) (e : image_in l ≡ Fills inside) where
  abbrev item : Listing
  item = only_item l inside

  -- Pixel Data is as long as the pixels, made even
  pub data_long : length (value_of item 0x7FE0_0010) ≡ pixel_length item
  data_long = data_fine item (subst (λ image. AllFine (sequence_standings l image)) e (image_fine boxes l (kept_fine (box_standings boxes l) kept)))

  -- so that it holds the pixels
  pub pixels_held : pixel_bytes item ≤ length (value_of item 0x7FE0_0010)
  pixels_held = omega (arith, data_long)

  -- and one byte more at most
  pub padding_short : length (value_of item 0x7FE0_0010) ≤ pixel_bytes item + 1
  padding_short =
      let small : pixel_bytes item % 2 < 2 = mod-lt (pixel_bytes item) (omega arith) in
      omega (arith, data_long, small)

  -- what the note covers are its first bytes
  pub pixels_first : bytes_of item.bytes (pixels l (Fills inside)) ≡ take (pixel_bytes item) (value_of item 0x7FE0_0010)
  pixels_first = part_first item.bytes (placed (look item 0x7FE0_0010)) (pixel_bytes item) pixels_held

  -- and they lie within the list that the picture was sent in
  pub pixels_within : l.scope.inside.from ≤ l.scope.inside.stop → (pixels l (Fills inside)).stop ≤ l.scope.inside.stop
  unfolding image_in bytes_of
  pixels_within h =
      let p = placed (look item 0x7FE0_0010) in
      let image = image_in_lem l (l.scope.inside.from + 8) l.scope.inside.stop (look l 0x2020_0110) (find_within l.bytes l.scope 0x2020_0110 h) in
      let within = subst (ItemIn l.scope.inside.stop) e image in
      let there = placed_in (item.scope.inside.from + 8) item.scope.inside.stop (look item 0x7FE0_0010) (find_within item.bytes item.scope 0x7FE0_0010 within.0) in
      omega (arith, pixels_held, length-take (p.stop - p.from) (drop p.from item.bytes), there.0, there.1, within.1)
