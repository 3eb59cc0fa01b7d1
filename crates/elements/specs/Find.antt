-- What a list holds under a tag, and how many items a sequence has.
use Rattle.std.specs.Prelude.{ℕ, suc, ◌-◌, List, [], ◌∷◌, eqb, length}
use Rattle.choice.specs.Pick.{pick}
use Rattle.headers.specs.declared.Syntax.{Syntax}
use Rattle.headers.specs.declared.Scope.{Scope}
use Rattle.headers.specs.declared.Head.{Head}
use Rattle.headers.specs.declared.Head.TheVariants as head
use Rattle.headers.specs.Header.{tag_at, head_at, item_head_at}
use Rattle.elements.specs.declared.Found.{Found}
use Rattle.elements.specs.declared.Found.TheVariants.{Missing, Value, Sequence}
use Rattle.elements.specs.declared.Items.{Items}
use Rattle.elements.specs.declared.Items.TheVariants.{Empty, One, Several}
use Rattle.elements.specs.Walk.{trail}
use Rattle.elements.specs.Reader.{Mark, start, element_in, list_step, item_step}

-- the elements of a list, as far as it can be read: where each stands, and the lowest tag that may stand there
unfoldable pub elements_from : List ℕ → Scope → Mark → List Mark
elements_from s scope m = trail (list_step (element_in s scope) s scope.inside) (suc (scope.inside.stop - m.at)) m

-- the items of a sequence, as far as it can be read: where each stands
unfoldable pub items_of : List ℕ → Scope → ℕ → List ℕ
items_of s scope at = trail (item_step (element_in s scope) s scope.room scope.inside) (suc (scope.inside.stop - at)) at

-- what a header gives to the one who looks for it
abbrev pub found : Head → Found
found (head.Fault n) = Missing
found (head.Value part) = Value part
found (head.Nest inside) = Sequence inside

-- the first of the elements that has the tag
abbrev pub among : List ℕ → Syntax → ℕ → ℕ → List Mark → Found
among s syntax end tag [] = Missing
among s syntax end tag (m ∷ ms) =
    pick (eqb (tag_at s m.at) tag) (found (head_at s syntax end m.at m.floor)) (among s syntax end tag ms)

unfoldable pub find_at : List ℕ → Scope → ℕ → Found
find_at s scope tag = among s scope.syntax scope.inside.stop tag (elements_from s scope (start scope.inside))

-- the list of an item
abbrev pub only : Head → Items
only (head.Fault n) = Empty
only (head.Value part) = Empty
only (head.Nest inside) = One inside

abbrev pub counted : List ℕ → ℕ → List ℕ → Items
counted s end [] = Empty
counted s end (at ∷ []) = only (item_head_at s end at)
counted s end (at ∷ (next ∷ more)) = Several (suc (suc (length more)))

unfoldable pub items_at : List ℕ → Scope → Items
items_at s scope = counted s scope.inside.stop (items_of s scope scope.inside.from)
