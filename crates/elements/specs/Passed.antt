-- R-6, rule 5.17: how many headers a reading passes, one for each element, item or delimiter that is read whole.
use Rattle.std.specs.Prelude.{ℕ, zero, suc, ◌+◌, ◌-◌, List, Option, Some, None}
use Rattle.choice.specs.Pick.{pick}
use Rattle.headers.specs.declared.Syntax.{Syntax}
use Rattle.headers.specs.declared.Inside.{Inside}
use Rattle.headers.specs.declared.Scope.{Scope}
use Rattle.headers.specs.declared.Head.{Head}
use Rattle.headers.specs.declared.Head.TheVariants.{Fault, Value, Nest}
use Rattle.headers.specs.Header.{head_at, item_head_at, close_at}
use Rattle.elements.specs.Walk.{Next, again, done}
use Rattle.elements.specs.Reader.{item_end, sequence_end, Elem, Mark, start, list_step, item_step, element_at, element_in, data_scope}

-- what is passed behind a step, where `rest` is what the walk passes from a further place
abbrev pub further : {S : Type 0} → (S → ℕ) → Next S → ℕ
further rest (again x) = rest x
further rest (done r) = 0

-- what the steps of a walk pass, the one that ends it too
unfoldable pub tally : {S : Type 0} → (S → Next S) → (S → ℕ) → ℕ → S → ℕ
tally step passed zero x = 0
tally step passed (suc fuel) x = passed x + further (λ y. tally step passed fuel y) (step x)

-- a header at fault is not passed, that of a value is; `held` counts that of a sequence or an item with what it holds
abbrev pub passed_behind : (Inside → ℕ) → Head → ℕ
passed_behind held (Fault n) = 0
passed_behind held (Value part) = 1
passed_behind held (Nest inside) = held inside

-- one of undefined length is closed by a delimiter, one of defined length by its end
abbrev pub delimiters : Inside → ℕ
delimiters inside = pick inside.loose 1 0

-- at the end of a list or a sequence, or with one more part
abbrev pub unless_closed : Inside → Option ℕ → ℕ → ℕ
unless_closed inside (Some q) more = delimiters inside
unless_closed inside None more = more

-- what an element passes, of the enclosing end, its place, and the lowest tag that may stand there
abbrev pub Passing : Type 0
Passing = ℕ → ℕ → ℕ → ℕ

unfoldable pub list_passed : Elem → Passing → List ℕ → Inside → Mark → ℕ
list_passed element passes s inside m =
    tally (list_step element s inside)
    (λ x. unless_closed inside (close_at s item_end inside x.at) (passes inside.stop x.at x.floor))
    (suc (inside.stop - m.at)) m

unfoldable pub item_passed : Elem → Passing → List ℕ → ℕ → ℕ → ℕ
item_passed element passes s end at = passed_behind (λ inside. suc (list_passed element passes s inside (start inside))) (item_head_at s end at)

unfoldable pub items_passed : Elem → Passing → List ℕ → ℕ → Inside → ℕ → ℕ
items_passed element passes s room inside at =
    tally (item_step element s room inside)
    (λ x. unless_closed inside (close_at s sequence_end inside x) (item_passed element passes s inside.stop x))
    (suc (inside.stop - at)) at

-- with room for no sequence, the header of one is at fault
unfoldable pub element_passed : List ℕ → Syntax → ℕ → Passing
element_passed s syntax zero end at floor = passed_behind (λ inside. 0) (head_at s syntax end at floor)
element_passed s syntax (suc room) end at floor =
    passed_behind (λ inside. suc (items_passed (element_at s syntax room) (element_passed s syntax room) s room inside inside.from)) (head_at s syntax end at floor)

unfoldable pub item_passed_at : List ℕ → Syntax → ℕ → ℕ → ℕ → ℕ
item_passed_at s syntax room end at = item_passed (element_at s syntax room) (element_passed s syntax room) s end at

abbrev pub passes_in : List ℕ → Scope → Passing
passes_in s scope = element_passed s scope.syntax scope.room

unfoldable pub passed_in : List ℕ → Scope → ℕ
passed_in s scope = list_passed (element_in s scope) (passes_in s scope) s scope.inside (start scope.inside)

-- of a data set or a command set
unfoldable pub headers_passed : List ℕ → Syntax → ℕ
headers_passed s syntax = passed_in s (data_scope s syntax)
