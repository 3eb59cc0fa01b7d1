-- How many headers a reading passes (R-6), read and refused, at each depth in both syntaxes.
-- Assumes nothing.
use mathlib.Core.Path.{refl}
use mathlib.Core.List.{List, [], ◌∷◌, ◌++◌, map}
use Prim.Native.Nat.{ℕ, ◌+◌, ◌*◌}
use Rattle.headers.specs.declared.Syntax.{Syntax}
use Rattle.headers.specs.declared.Syntax.TheVariants.{Implicit, Explicit}
use Rattle.elements.specs.Passed.{headers_passed}
use Rattle.rules.specs.Lists.{from}
use Rattle.rules.proofs.Book.{the_book}
use Rattle.rules.proofs.Stage.{hex, joined, Example, gives, AllHold}
use Rattle.pinned.proofs.Stops.{within, within_explicit, at_each}

abbrev passed : Syntax → List (List ℕ) → List ℕ
passed syntax sets = map (λ s. headers_passed s syntax) sets

-- at each depth a sequence and an item more
abbrev two_each : ℕ → List ℕ
two_each first = map (λ n. first + 2 * n) (from 0 5)

-- "also up to, and without, the header at fault in a refused list": cut, odd, not ascending, a wrong VR, undefined, out of place
abbrev refused : List Example
refused =
    gives (passed Implicit (at_each within "0900")) (two_each 0)
    ∷ gives (passed Implicit (at_each within "0900100003000000414243")) (two_each 0)
    ∷ gives (passed Implicit (at_each within "0900100002000000414209001000020000004142")) (two_each 1)
    ∷ gives (passed Implicit (at_each within "e07f1000ffffffff")) (two_each 0)
    ∷ gives (passed Implicit (at_each within "feffdde000000000")) (two_each 0)
    ∷ gives (passed Explicit (at_each within_explicit "0900")) (two_each 0)
    ∷ gives (passed Explicit (at_each within_explicit "090010004c4f0300414243")) (two_each 0)
    ∷ gives (passed Explicit (at_each within_explicit "090010004c4f02004142090010004c4f02004142")) (two_each 1)
    ∷ gives (passed Explicit (at_each within_explicit "090010004c4f02004142090011005a5a02004142")) (two_each 1)
    ∷ gives (passed Explicit (at_each within_explicit "e07f10004f420000ffffffff")) (two_each 0)
    -- the fifth sequence, behind four with an item each
    ∷ gives (passed Implicit (within 4 (hex "09000010ffffffff") ∷ []) ++ passed Explicit (within_explicit 4 (hex "0900001053510000ffffffff") ∷ [])) (8 ∷ 8 ∷ [])
    -- a delimiter with a length, and the delimiter of the other kind
    ∷ gives (passed Implicit (within 1 (hex "feff0de002000000") ∷ within 1 (hex "feff0de000000000feff0de000000000") ∷ [])) (2 ∷ 3 ∷ [])
    ∷ []

pub refused_hold : AllHold refused
unfolding the_book
refused_hold = (refl, (refl, (refl, (refl, (refl, (refl, (refl, (refl, (refl, (refl, (refl, (refl, tt))))))))))))

-- "one for each element, item or delimiter read whole"
abbrev read : List Example
read =
    gives (passed Implicit ([] ∷ hex "0900100000000000" ∷ hex "09001000020000004142" ∷ hex "0900100000000000090011000000000009001200020000004142" ∷ [])) (0 ∷ 1 ∷ 1 ∷ 3 ∷ [])
    -- a sequence: without an item, closed by its delimiter, with an item of defined length, of undefined length, with two
    ∷ gives (passed Implicit (hex "1020000500000000" ∷ hex "10200005fffffffffeffdde000000000" ∷ hex "1020000508000000feff00e000000000" ∷ hex "10200005fffffffffeff00e0fffffffffeff0de000000000feffdde000000000" ∷ hex "1020000510000000feff00e000000000feff00e000000000" ∷ [])) (1 ∷ 2 ∷ 2 ∷ 4 ∷ 3 ∷ [])
    ∷ gives (passed Explicit (hex "102000055351000000000000" ∷ hex "1020000553510000fffffffffeffdde000000000" ∷ hex "102000055351000008000000feff00e000000000" ∷ hex "1020000553510000fffffffffeff00e0ffffffff090010004c4f00000000" ∷ [])) (1 ∷ 2 ∷ 2 ∷ 3 ∷ [])
    -- what is opaque holds no header
    ∷ gives (passed Implicit (hex "0900001008000000feff00e000000000" ∷ [])) (1 ∷ [])
    -- four sequences within one another, all closed
    ∷ gives (passed Implicit (within 4 (hex "0900100000000000" ++ joined (map (λ n. hex "feff0de000000000feffdde000000000") (from 0 4))) ∷ [])) (17 ∷ [])
    ∷ []

pub read_hold : AllHold read
unfolding the_book
read_hold = (refl, (refl, (refl, (refl, (refl, tt)))))
