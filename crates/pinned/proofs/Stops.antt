-- Where the reading of a data set stops: number, place and depth, and the note that check 5 gives.
-- Assumes nothing.
use mathlib.Core.Path.{refl}
use mathlib.Core.List.{List, [], ◌∷◌, ◌++◌, map}
use Prim.Native.Nat.{ℕ, ◌+◌, ◌*◌}
use Prim.Native.String.{String}
use lib.ListN.{replicate}
use Rattle.std.specs.Prelude.{Result, Ok, Err}
use Rattle.headers.specs.declared.Syntax.{Syntax}
use Rattle.headers.specs.declared.Syntax.TheVariants.{Implicit, Explicit}
use Rattle.elements.specs.declared.Stop.{Stop}
use Rattle.elements.specs.Reader.{data_set}
use Rattle.rules.specs.Lists.{from}
use Rattle.rules.proofs.Book.{the_book}
use Rattle.rules.proofs.Stage.{hex, joined, Example, gives, AllHold}

-- number, place and depth; 0 and the place behind all of it where it is read
abbrev stop : Result ℕ Stop → List ℕ
stop (Ok q) = 0 ∷ q ∷ 0 ∷ []
stop (Err s) = s.number ∷ s.place ∷ s.depth ∷ []

abbrev stops : Syntax → List (List ℕ) → List (List ℕ)
stops syntax sets = map (λ s. stop (data_set s syntax)) sets

-- so many sequences of undefined length within one another, an item open in each
abbrev pub within : ℕ → List ℕ → List ℕ
within n s = joined (replicate n (hex "09000010fffffffffeff00e0ffffffff")) ++ s

abbrev pub within_explicit : ℕ → List ℕ → List ℕ
within_explicit n s = joined (replicate n (hex "0900001053510000fffffffffeff00e0ffffffff")) ++ s

abbrev pub at_each : (ℕ → List ℕ → List ℕ) → String → List (List ℕ)
at_each nested text = map (λ n. nested n (hex text)) (from 0 5)

-- the same refusal at each depth, the place so many bytes further from depth to depth
abbrev stepping : ℕ → ℕ → ℕ → List (List ℕ)
stepping number first step = map (λ n. number ∷ (first + n * step) ∷ n ∷ []) (from 0 5)

-- "for a cut header that is where it should begin"; "the place of the first byte of the header at fault"
abbrev depths : List Example
depths =
    gives (joined (stops Implicit (at_each within "0900"))) (joined (stepping 1 0 16))
    ∷ gives (joined (stops Implicit (at_each within "0900100003000000414243"))) (joined (stepping 2 0 16))
    ∷ gives (joined (stops Implicit (at_each within "0900100002000000414209001000020000004142"))) (joined (stepping 3 10 16))
    ∷ gives (joined (stops Implicit (at_each within "e07f1000ffffffff"))) (joined (stepping 5 0 16))
    ∷ gives (joined (stops Implicit (at_each within "feffdde000000000"))) (joined (stepping 6 0 16))
    ∷ gives (joined (stops Explicit (at_each within_explicit "0900"))) (joined (stepping 1 0 20))
    ∷ gives (joined (stops Explicit (at_each within_explicit "090010004c4f0300414243"))) (joined (stepping 2 0 20))
    ∷ gives (joined (stops Explicit (at_each within_explicit "090010004c4f02004142090010004c4f02004142"))) (joined (stepping 3 10 20))
    ∷ gives (joined (stops Explicit (at_each within_explicit "090010005a5a02004142"))) (joined (stepping 4 0 20))
    ∷ gives (joined (stops Explicit (at_each within_explicit "e07f10004f420000ffffffff"))) (joined (stepping 5 0 20))
    ∷ gives (joined (stops Explicit (at_each within_explicit "feffdde000000000"))) (joined (stepping 6 0 20))
    -- a fifth sequence lies in four
    ∷ gives (stop (data_set (within 4 (hex "09000010ffffffff")) Implicit) ++ stop (data_set (within_explicit 4 (hex "0900001053510000ffffffff")) Explicit)) (7 ∷ 64 ∷ 4 ∷ 7 ∷ 80 ∷ 4 ∷ [])
    ∷ []

pub depths_hold : AllHold depths
unfolding the_book
depths_hold = (refl, (refl, (refl, (refl, (refl, (refl, (refl, (refl, (refl, (refl, (refl, (refl, tt))))))))))))

abbrev others : List Example
others =
    -- read whole; cut to nothing behind a list
    gives (joined (stops Implicit ([] ∷ hex "09001000020000004142" ∷ hex "0900001000000000" ∷ []))) (0 ∷ 0 ∷ 0 ∷ 0 ∷ 10 ∷ 0 ∷ 0 ∷ 8 ∷ 0 ∷ [])
    -- a value past the end of its item, of its sequence, of the set; an item past its sequence's end, and of odd length
    ∷ gives (joined (stops Implicit (hex "1020000514000000feff00e00a000000090010000400000041424344" ∷ hex "1020000512000000feff00e0ffffffff090010000400000041424344" ∷ hex "09001000040000004142" ∷ []))) (1 ∷ 16 ∷ 1 ∷ 1 ∷ 16 ∷ 1 ∷ 1 ∷ 0 ∷ 0 ∷ [])
    ∷ gives (joined (stops Implicit (hex "102000050a000000feff00e00400000041424344" ∷ hex "102000050a000000feff00e0010000004142" ∷ []))) (1 ∷ 8 ∷ 1 ∷ 2 ∷ 8 ∷ 1 ∷ [])
    -- a delimiter that is missing: of the sequence without and with an item, of the item, of both, at the end of the nearest part of defined length
    ∷ gives (joined (stops Implicit (hex "09000010ffffffff" ∷ hex "09000010fffffffffeff00e0fffffffffeff0de000000000" ∷ hex "09000010fffffffffeff00e0ffffffff09001000020000004142" ∷ within 1 [] ∷ within 4 [] ∷ []))) (1 ∷ 8 ∷ 1 ∷ 1 ∷ 24 ∷ 1 ∷ 1 ∷ 26 ∷ 1 ∷ 1 ∷ 16 ∷ 1 ∷ 1 ∷ 64 ∷ 4 ∷ [])
    ∷ gives (joined (stops Implicit (hex "1020000510000000feff00e00800000009000010fffffffffeffdde000000000" ∷ hex "1020000510000000feff00e0ffffffff090010000000000020201000020000000100" ∷ []))) (1 ∷ 24 ∷ 2 ∷ 1 ∷ 24 ∷ 1 ∷ [])
    -- what was closed before does not count
    ∷ gives (stop (data_set (hex "09000010fffffffffeff00e0fffffffffeff0de000000000feffdde00000000010200005fffffffffeff00e0ffffffff0900") Implicit)) (1 ∷ 48 ∷ 1 ∷ [])
    ∷ []

pub others_hold : AllHold others
unfolding the_book
others_hold = (refl, (refl, (refl, (refl, (refl, (refl, tt))))))
