-- Elements (PS3.5): where the reader is to find what was written from a place on, and what it is.
use Rattle.std.specs.Prelude.{ℕ, suc, ◌+◌, false, List, [], eqb, length}
use Rattle.choice.specs.Pick.{pick}
use Rattle.tags.specs.Table.{SQ}
use Rattle.headers.specs.declared.Syntax.{Syntax}
use Rattle.headers.specs.declared.Inside.{Inside}
use Rattle.elements.specs.declared.Found.{Found}
use Rattle.elements.specs.declared.Found.TheVariants.{Missing, Value, Sequence}
use Rattle.elements.specs.declared.Items as read
use Rattle.elements.specs.declared.Items.TheVariants.{Empty, One, Several}
use Rattle.writing.specs.Tree.{Elements, no_elements, value, sequence, Items, no_items, item}
use Rattle.writing.specs.Bytes.{padded, header_size, written, written_items}

-- a list or a sequence of so many bytes from a place on
abbrev pub span : ℕ → ℕ → Inside
span from size = record { from = from; stop = from + size; loose = false }

-- where what was written under a tag stands
unfoldable pub place_in : Syntax → ℕ → ℕ → Elements → Found
place_in syntax at tag no_elements = Missing
place_in syntax at tag (value t vr bytes more) =
    pick (eqb t tag)
    (Value (record { from = at + header_size syntax vr; stop = at + header_size syntax vr + length (padded vr bytes) }))
    (place_in syntax (at + header_size syntax vr + length (padded vr bytes)) tag more)
place_in syntax at tag (sequence t items more) =
    pick (eqb t tag)
    (Sequence (span (at + header_size syntax SQ) (length (written_items syntax items))))
    (place_in syntax (at + header_size syntax SQ + length (written_items syntax items)) tag more)

-- the value that was written under a tag, or nothing
unfoldable pub value_under : ℕ → Elements → List ℕ
value_under tag no_elements = []
value_under tag (value t vr bytes more) = pick (eqb t tag) (padded vr bytes) (value_under tag more)
value_under tag (sequence t items more) = pick (eqb t tag) [] (value_under tag more)

-- the items that were written under a tag, or none
unfoldable pub items_under : ℕ → Elements → Items
items_under tag no_elements = no_items
items_under tag (value t vr bytes more) = pick (eqb t tag) no_items (items_under tag more)
items_under tag (sequence t items more) = pick (eqb t tag) items (items_under tag more)

unfoldable pub count : Items → ℕ
count no_items = 0
count (item list more) = suc (count more)

-- what the reader is to say of items: none, where the list of the only one stands, or how many
abbrev pub told : Syntax → ℕ → Items → read.Items
told syntax at no_items = Empty
told syntax at (item list no_items) = One (span (at + 8) (length (written syntax list)))
told syntax at (item list (item next more)) = Several (suc (suc (count more)))
