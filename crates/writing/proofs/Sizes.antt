-- How long what is written is.
-- Assumes nothing.
use Prim.Native.Nat.{ℕ, ◌+◌, ◌≤◌, ◌%◌}
use mathlib.Core.Path.{◌≡◌, ap, ◌∙◌}
use mathlib.Core.Bool.{Bool, true, false}
use mathlib.Core.List.{List, ◌++◌}
use native.Mathlib.Omega.{arith}
use lib.Dec.{eqb}
use borrow.Author.Tests.{eq-eqb, ne_eqb}
use Rattle.choice.proofs.Picks.{pick_cases}
use lib.ListN.{length, length-append}
use Rattle.choice.specs.Pick.{pick, both}
use Rattle.octets.specs.Octets.{octets}
use Rattle.octets.proofs.Numbers.{octets_length}
use Rattle.tags.specs.Table.{SQ, form_of}
use Rattle.headers.specs.declared.Syntax.{Syntax}
use Rattle.headers.specs.declared.Syntax.TheVariants.{Implicit, Explicit}
use Rattle.headers.specs.Header.{is_explicit}
use Rattle.writing.specs.Bytes.{padded, tag_octets, vr_octets, header_size, plain, header, item_header, headed, element, written, written_items}
use Rattle.writing.specs.Tree.{Elements, value, sequence, Items, item}

pub tag_length : (tag : ℕ) → length (tag_octets tag) ≡ 4
unfolding tag_octets
tag_length tag = simp (length-append, octets_length)

vr_length_by : (long : Bool) (vr size : ℕ) → length (octets 2 vr ++ pick long (octets 2 0 ++ octets 4 size) (octets 2 size)) ≡ pick long 8 4
vr_length_by true vr size = simp (length-append, octets_length)
vr_length_by false vr size = simp (length-append, octets_length)

pub vr_length : (vr size : ℕ) → length (vr_octets vr size) ≡ pick (eqb (form_of vr) 12) 8 4
unfolding vr_octets
vr_length vr size = vr_length_by (eqb (form_of vr) 12) vr size

pub vr_least : (vr size : ℕ) → 4 ≤ length (vr_octets vr size)
vr_least vr size = rw (vr_length vr size) (pick_cases (λ (n : ℕ). 4 ≤ n) (eqb (form_of vr) 12) 8 4 (λ _. omega arith) (λ _. omega arith))

pub vr_long_length : (vr size : ℕ) → form_of vr ≡ 12 → length (vr_octets vr size) ≡ 8
vr_long_length vr size e = vr_length vr size ∙ rw (eq-eqb _ _ e)

pub vr_short_length : (vr size : ℕ) → (form_of vr ≡ 12 → ⊥) → length (vr_octets vr size) ≡ 4
vr_short_length vr size e = vr_length vr size ∙ rw (ne_eqb _ _ e)

pub plain_length : (tag size : ℕ) → length (plain tag size) ≡ 8
unfolding plain
plain_length tag size = simp (length-append, tag_length, octets_length)

pub explicit_length : (tag vr size : ℕ) → length (header Explicit tag vr size) ≡ 4 + length (vr_octets vr size)
unfolding header
explicit_length tag vr size = simp (length-append, tag_length)

header_length_by : (long : Bool) (tag vr size : ℕ) → length (vr_octets vr size) ≡ pick long 8 4 → length (header Explicit tag vr size) ≡ pick long 12 8
header_length_by true tag vr size e = explicit_length tag vr size ∙ rw e
header_length_by false tag vr size e = explicit_length tag vr size ∙ rw e

pub header_length : (syntax : Syntax) (tag vr size : ℕ) → length (header syntax tag vr size) ≡ header_size syntax vr
unfolding header header_size
header_length Explicit tag vr size = header_length_by (eqb (form_of vr) 12) tag vr size (vr_length vr size)
header_length Implicit tag vr size = plain_length tag size

-- a header has eight or twelve bytes
size_by : (b : Bool) → (8 ≤ pick b 12 8) × (pick b 12 8 ≤ 12)
size_by true = (omega arith, omega arith)
size_by false = (omega arith, omega arith)

pub size_between : (syntax : Syntax) (vr : ℕ) → (8 ≤ header_size syntax vr) × (header_size syntax vr ≤ 12)
unfolding header_size
size_between syntax vr = size_by (both (is_explicit syntax) (eqb (form_of vr) 12))

pub item_length : (size : ℕ) → length (item_header size) ≡ 8
item_length size = plain_length 0xFFFE_E000 size

pub padded_length : (vr : ℕ) (bytes : List ℕ) → length (padded vr bytes) ≡ length bytes + length bytes % 2
unfolding padded
padded_length vr bytes = simp (length-append, octets_length)

pub padded_even : (vr : ℕ) (bytes : List ℕ) → length (padded vr bytes) % 2 ≡ 0
padded_even vr bytes = omega (arith, padded_length vr bytes)

pub headed_length : (syntax : Syntax) (tag vr : ℕ) (held : List ℕ) → length (headed syntax tag vr held) ≡ header_size syntax vr + length held
headed_length syntax tag vr held = simp (length-append, header_length)

pub element_length : (syntax : Syntax) (tag vr : ℕ) (bytes : List ℕ) → length (element syntax tag vr bytes) ≡ header_size syntax vr + (length bytes + length bytes % 2)
unfolding element
element_length syntax tag vr bytes = headed_length syntax tag vr (padded vr bytes) ∙ ap (λ (n : ℕ). header_size syntax vr + n) (padded_length vr bytes)

-- the value is a number of an even number of bytes
pub number_length : (syntax : Syntax) (tag vr width x : ℕ) → width % 2 ≡ 0 → length (element syntax tag vr (octets width x)) ≡ header_size syntax vr + width
number_length syntax tag vr width x e = element_length syntax tag vr (octets width x) ∙ rw (octets_length width x, e) (omega arith)

-- a tree's length, node by node
module _ (syntax : Syntax) (tag : ℕ) (more : Elements) where
  pub value_length : (vr : ℕ) (bytes : List ℕ) → length (written syntax (value tag vr bytes more)) ≡ header_size syntax vr + (length bytes + length bytes % 2) + length (written syntax more)
  unfolding written
  value_length vr bytes = rw (length-append (element syntax tag vr bytes) (written syntax more), element_length syntax tag vr bytes)

  pub sequence_length : (items : Items) → length (written syntax (sequence tag items more)) ≡ header_size syntax SQ + length (written_items syntax items) + length (written syntax more)
  unfolding written
  sequence_length items = rw (length-append (headed syntax tag SQ (written_items syntax items)) (written syntax more), headed_length syntax tag SQ (written_items syntax items))

pub items_length : (syntax : Syntax) (list : Elements) (more : Items) → length (written_items syntax (item list more)) ≡ 8 + length (written syntax list) + length (written_items syntax more)
unfolding written
items_length syntax list more =
    rw (length-append (item_header (length (written syntax list)) ++ written syntax list) (written_items syntax more), length-append (item_header (length (written syntax list))) (written syntax list), item_length (length (written syntax list)))
