-- Elements (PS3.5): what makes a list of elements fit to be written, so that the reader takes it.
use Rattle.std.specs.Prelude.{ℕ, ◌+◌, ◌-◌, ◌<◌, ◌≤◌, ◌/◌, ◌≡◌, Bool, true, false, ltb, eqb, length}
use Rattle.choice.specs.Pick.{pick, both, not}
use Rattle.tags.specs.Table.{SQ, form_of, named_vr, differs}
use Rattle.headers.specs.declared.Syntax.{Syntax}
use Rattle.headers.specs.Header.{is_explicit}
use Rattle.writing.specs.Tree.{Elements, no_elements, value, sequence, Items, no_items, item}
use Rattle.writing.specs.Bytes.{padded, written, written_items}

-- a tag of four bytes, not of group FFFE, with a known VR that is the named tag's own
unfoldable pub allowed : ℕ → ℕ → Bool
allowed tag vr =
    both (ltb tag 4294967296)
    (both (not (eqb (tag / 65536) 0xFFFE))
    (both (not (eqb (form_of vr) 0)) (not (differs tag vr))))

-- lengths are below this: 16 bits behind a short-form VR, else 32 without the undefined length
unfoldable pub limit : Syntax → ℕ → ℕ
limit syntax vr = pick (both (is_explicit syntax) (not (eqb (form_of vr) 12))) 65536 0xFFFF_FFFF

-- an element's header in a list where its tag must not be below `floor`
abbrev pub HeaderFits : Syntax → ℕ → ℕ → ℕ → ℕ → Type 0
HeaderFits syntax floor tag vr size = (floor ≤ tag) × (allowed tag vr ≡ true) × (size < limit syntax vr)

-- tags ascend, and there is room for so many sequences within one another
abbrev mutual
  pub Fit : Syntax → ℕ → ℕ → Elements → Type 0
  Fit syntax room floor no_elements = Unit {0}
  Fit syntax room floor (value tag vr bytes more) =
      HeaderFits syntax floor tag vr (length (padded vr bytes)) × (eqb vr SQ ≡ false) × Fit syntax room (tag + 1) more
  Fit syntax room floor (sequence tag items more) =
      HeaderFits syntax floor tag SQ (length (written_items syntax items))
      × (named_vr tag ≡ SQ)
      × (0 < room)
      × FitItems syntax (room - 1) items
      × Fit syntax room (tag + 1) more

  pub FitItems : Syntax → ℕ → Items → Type 0
  FitItems syntax room no_items = Unit {0}
  FitItems syntax room (item list more) =
      (length (written syntax list) < 0xFFFF_FFFF) × Fit syntax room 0 list × FitItems syntax room more
