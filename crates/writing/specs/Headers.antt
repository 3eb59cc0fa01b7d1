-- R-6, rule 5.17: how many headers are written, one for each element and each item, and data sets that have a header for each eight bytes.
use Rattle.std.specs.Prelude.{ℕ, zero, suc, ◌+◌, List, [], ◌++◌}
use Rattle.tags.specs.Table.{CS}
use Rattle.elements.specs.Reader.{sequence_end}
use Rattle.writing.specs.Tree.{Elements, no_elements, value, sequence, Items, no_items, item}
use Rattle.writing.specs.Bytes.{plain, item_header}

unfoldable mutual
  pub headers_of : Elements → ℕ
  headers_of no_elements = 0
  headers_of (value tag vr bytes more) = suc (headers_of more)
  headers_of (sequence tag items more) = suc (item_headers_of items + headers_of more)

  pub item_headers_of : Items → ℕ
  item_headers_of no_items = 0
  item_headers_of (item list more) = suc (headers_of list + item_headers_of more)

-- so many elements without a value, one tag after the other
unfoldable pub empties : ℕ → ℕ → Elements
empties tag zero = no_elements
empties tag (suc n) = value tag CS [] (empties (tag + 1) n)

-- so many items without elements, and the delimiter of their sequence
unfoldable pub items_then_end : ℕ → List ℕ
items_then_end zero = plain sequence_end 0
items_then_end (suc n) = item_header 0 ++ items_then_end n

-- a sequence of undefined length that holds them, in implicit VR
abbrev pub loose_sequence : ℕ → List ℕ
loose_sequence n = plain 0x2010_0510 0xFFFF_FFFF ++ items_then_end n
