-- Elements (PS3.5), rule 5.16: "Writing uses defined lengths, ascending tags, UIDs padded with one zero, text with a space."
use Rattle.std.specs.Prelude.{ℕ, ◌/◌, ◌%◌, List, [], ◌++◌, eqb, length}
use Rattle.choice.specs.Pick.{pick, both}
use Rattle.octets.specs.Octets.{octets}
use Rattle.tags.specs.Table.{SQ, UI, form_of}
use Rattle.headers.specs.declared.Syntax.{Syntax}
use Rattle.headers.specs.Header.{is_explicit}
use Rattle.writing.specs.Tree.{Elements, no_elements, value, sequence, Items, no_items, item}

abbrev pub padding : ℕ → ℕ
padding vr = pick (eqb vr UI) 0x00 0x20

-- a value of even length: one byte of padding behind an odd one, none behind an even one
unfoldable pub padded : ℕ → List ℕ → List ℕ
padded vr bytes = bytes ++ octets (length bytes % 2) (padding vr)

-- a tag: its group, then its element
unfoldable pub tag_octets : ℕ → List ℕ
tag_octets tag = octets 2 (tag / 65536) ++ octets 2 (tag % 65536)

-- what follows the tag in explicit VR: the VR and the length, a long-form VR with two zero bytes between them
unfoldable pub vr_octets : ℕ → ℕ → List ℕ
vr_octets vr size =
    octets 2 vr ++ pick (eqb (form_of vr) 12) (octets 2 0 ++ octets 4 size) (octets 2 size)

-- the size of a header
unfoldable pub header_size : Syntax → ℕ → ℕ
header_size syntax vr = pick (both (is_explicit syntax) (eqb (form_of vr) 12)) 12 8

-- a tag and a 32-bit length
unfoldable pub plain : ℕ → ℕ → List ℕ
plain tag size = tag_octets tag ++ octets 4 size

unfoldable pub header : Syntax → ℕ → ℕ → ℕ → List ℕ
header syntax tag vr size = pick (is_explicit syntax) (tag_octets tag ++ vr_octets vr size) (plain tag size)

-- an item has no VR in either syntax
abbrev pub item_header : ℕ → List ℕ
item_header size = plain 0xFFFE_E000 size

-- a header, and what it is the header of
abbrev pub headed : Syntax → ℕ → ℕ → List ℕ → List ℕ
headed syntax tag vr held = header syntax tag vr (length held) ++ held

unfoldable pub element : Syntax → ℕ → ℕ → List ℕ → List ℕ
element syntax tag vr bytes = headed syntax tag vr (padded vr bytes)

unfoldable mutual
  pub written : Syntax → Elements → List ℕ
  written syntax no_elements = []
  written syntax (value tag vr bytes more) = element syntax tag vr bytes ++ written syntax more
  written syntax (sequence tag items more) = headed syntax tag SQ (written_items syntax items) ++ written syntax more

  pub written_items : Syntax → Items → List ℕ
  written_items syntax no_items = []
  written_items syntax (item list more) =
      (item_header (length (written syntax list)) ++ written syntax list) ++ written_items syntax more
