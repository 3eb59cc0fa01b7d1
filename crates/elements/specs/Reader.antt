-- Elements (PS3.5), rules 5.11 and 5.12: the grammar. A list holds elements, a sequence element holds items, an item holds a list.
use Rattle.std.specs.Prelude.{ℕ, zero, suc, ◌+◌, ◌-◌, false, List, length, Option, Some, None, Result, Ok, Err}
use Rattle.headers.specs.declared.Syntax.{Syntax}
use Rattle.headers.specs.declared.Inside.{Inside}
use Rattle.headers.specs.declared.Scope.{Scope}
use Rattle.headers.specs.declared.Head.{Head}
use Rattle.headers.specs.declared.Head.TheVariants.{Fault, Value, Nest}
use Rattle.headers.specs.Header.{tag_at, head_at, item_head_at, close_at}
use Rattle.elements.specs.declared.Stop.{Stop}
use Rattle.elements.specs.Walk.{Next, done, onward, walk}

-- the delimiters that close the list of an item and a sequence
abbrev pub item_end : ℕ
item_end = 0xFFFE_E00D

abbrev pub sequence_end : ℕ
sequence_end = 0xFFFE_E0DD

-- a reader of one element: the enclosing end, the place, and the lowest tag that may stand there
abbrev pub Elem : Type 0
Elem = ℕ → ℕ → ℕ → Result ℕ Stop

-- so many sequences within one another are read
abbrev pub most_nested : ℕ
most_nested = 4

-- a header at fault: its place, and how many sequences it lies in, where there is room for so many more
abbrev pub refused_at : ℕ → ℕ → ℕ → Result ℕ Stop
refused_at n at room = Err (record { number = n; place = at; depth = most_nested - room })

-- what is read behind a header that stands at a place
abbrev pub behind : (Inside → Result ℕ Stop) → ℕ → ℕ → Head → Result ℕ Stop
behind held room at (Fault n) = refused_at n at room
behind held room at (Value part) = Ok part.stop
behind held room at (Nest inside) = held inside

-- at the end of a list, or with one more part
abbrev pub or_else : {S : Type 0} → Option ℕ → Next S → Next S
or_else (Some q) more = done (Ok q)
or_else None more = more

-- where the walk of a list stands: the place, and the lowest tag that may follow
pub record Mark : Type 0 where
  pub at : ℕ
  pub floor : ℕ

abbrev pub start : Inside → Mark
start inside = record { at = inside.from; floor = 0 }

unfoldable pub list_step : Elem → List ℕ → Inside → Mark → Next Mark
list_step element s inside m =
    or_else (close_at s item_end inside m.at)
    (onward (element inside.stop m.at m.floor) (λ q. record { at = q; floor = tag_at s m.at + 1 }))

-- a list: elements, with tags that ascend
unfoldable pub list_from : Elem → List ℕ → Inside → Mark → Result ℕ Stop
list_from element s inside m = walk (list_step element s inside) (suc (inside.stop - m.at)) m

-- an item: its header, and its list
unfoldable pub item_with : Elem → List ℕ → ℕ → ℕ → ℕ → Result ℕ Stop
item_with element s room end at = behind (λ inside. list_from element s inside (start inside)) room at (item_head_at s end at)

unfoldable pub item_step : Elem → List ℕ → ℕ → Inside → ℕ → Next ℕ
item_step element s room inside at =
    or_else (close_at s sequence_end inside at)
    (onward (item_with element s room inside.stop at) (λ q. q))

-- a sequence: items
unfoldable pub items_from : Elem → List ℕ → ℕ → Inside → ℕ → Result ℕ Stop
items_from element s room inside at = walk (item_step element s room inside) (suc (inside.stop - at)) at

-- an element, with room for so many sequences within one another; with room for none, a sequence is refusal 7
unfoldable pub element_at : List ℕ → Syntax → ℕ → Elem
element_at s syntax zero end at floor =
    behind (λ inside. refused_at 7 at zero) zero at (head_at s syntax end at floor)
element_at s syntax (suc room) end at floor =
    behind (λ inside. items_from (element_at s syntax room) s room inside inside.from) (suc room) at (head_at s syntax end at floor)

-- a list or a sequence in a syntax, with room for so many sequences within one another
abbrev pub scope_of : Syntax → ℕ → Inside → Scope
scope_of syntax room inside = record { syntax = syntax; room = room; inside = inside }

-- what a sequence that stands in a list holds, and what its items hold
abbrev pub deeper : Scope → Inside → Scope
deeper scope inside = scope_of scope.syntax (scope.room - 1) inside

abbrev pub element_in : List ℕ → Scope → Elem
element_in s scope = element_at s scope.syntax scope.room

unfoldable pub list_at : List ℕ → Scope → Result ℕ Stop
list_at s scope = list_from (element_in s scope) s scope.inside (start scope.inside)

unfoldable pub item_at : List ℕ → Syntax → ℕ → ℕ → ℕ → Result ℕ Stop
item_at s syntax room end at = item_with (element_at s syntax room) s room end at

-- all the bytes, as one list of defined length
abbrev pub whole : List ℕ → Inside
whole s = record { from = 0; stop = length s; loose = false }

-- a data set or a command set: four sequences within one another are read, the fifth is refused
abbrev pub data_scope : List ℕ → Syntax → Scope
data_scope s syntax = scope_of syntax most_nested (whole s)

unfoldable pub data_set : List ℕ → Syntax → Result ℕ Stop
data_set s syntax = list_at s (data_scope s syntax)
