-- Pictures: every element of an item missing, empty and not allowed, and both depths, computed.
-- Assumes nothing.
use mathlib.Core.Path.{refl}
use mathlib.Core.List.{List, [], ◌∷◌, ◌++◌, map}
use Prim.Native.Nat.{ℕ, suc}
use lib.ListN.{take, drop, replicate}
use Rattle.rules.specs.Lists.{from, without}
use Rattle.rules.specs.Attributes.{box_standings, image_standings}
use Rattle.rules.proofs.Book.{the_book}
use Rattle.rules.proofs.Stage.{hex, element, text, joined, implicit, judged, Example, gives, AllHold}

abbrev us : ℕ → List ℕ
us n = n ∷ 0 ∷ []

abbrev item : ℕ → ℕ → ℕ → ℕ → List (List ℕ)
item bits stored high length =
    element "28000200" (us 1)
    ∷ text "28000400" "MONOCHROME1 "
    ∷ element "28001000" (us 1)
    ∷ element "28001100" (us 2)
    ∷ element "28000001" (us bits)
    ∷ element "28000101" (us stored)
    ∷ element "28000201" (us high)
    ∷ element "28000301" (us 0)
    ∷ element "e07f1000" (replicate length 255)
    ∷ []

abbrev item_status : List (List ℕ) → ℕ
item_status elements = judged (image_standings (implicit (joined elements)))

-- one row of two pixels of a byte, with one element put in the place of another
abbrev eight : List (List ℕ)
eight = item 8 8 7 2

abbrev with_at : ℕ → List ℕ → ℕ
with_at i e = item_status (take i eight ++ (e ∷ drop (suc i) eight))

-- the same nine with no value
abbrev emptied : List (List ℕ)
emptied =
    text "28000200" ""
    ∷ text "28000400" "  "
    ∷ text "28001000" ""
    ∷ text "28001100" ""
    ∷ text "28000001" ""
    ∷ text "28000101" ""
    ∷ text "28000201" ""
    ∷ text "28000301" ""
    ∷ text "e07f1000" ""
    ∷ []

abbrev each_place : ℕ → List (List ℕ) → List ℕ
each_place i [] = []
each_place i (e ∷ es) = with_at i e ∷ each_place (suc i) es

-- three sequences within one another, as many as an item of Image Sequence has room for
abbrev three : List ℕ
three = hex "28000500fffffffffeff00e0ffffffff28000500fffffffffeff00e0ffffffff28000500fffffffffeff00e0ffffffff" ++ hex "feff0de000000000feffdde000000000feff0de000000000feffdde000000000feff0de000000000feffdde000000000"

-- Position 1, and an image of so many elements
abbrev box_status : List (List ℕ) → ℕ
box_status elements = judged (box_standings 6 (implicit (element "20201000" (us 1) ++ element "20201001" (element "feff00e0" (joined elements)))))

abbrev pictures : List Example
pictures =
    -- "8,8,7 or 16,12,11", "length rows × columns × 1 or 2"
    gives (item_status eight ∷ item_status (item 16 12 11 4) ∷ []) (0 ∷ 0 ∷ [])
    ∷ gives (item_status (item 8 8 7 4) ∷ item_status (item 16 12 11 2) ∷ item_status (item 16 8 7 4) ∷ item_status (item 16 8 7 2) ∷ item_status (item 8 12 7 2) ∷ item_status (item 8 12 11 2) ∷ item_status (item 8 8 11 2) ∷ item_status (item 16 12 7 4) ∷ item_status (item 16 16 11 4) ∷ item_status (item 16 16 15 4) ∷ []) (replicate 10 0x0106)
    -- "(0028,0004) MONOCHROME1 or 2"
    ∷ gives (with_at 1 (text "28000400" "MONOCHROME2 ") ∷ with_at 1 (text "28000400" "MONOCHROME3 ") ∷ []) (0 ∷ 0x0106 ∷ [])
    -- "All of an item is mandatory": each missing, each empty
    ∷ gives (map (λ i. item_status (without i eight)) (from 0 9)) (replicate 9 0x0120)
    ∷ gives (each_place 0 emptied) (replicate 9 0x0121)
    -- each not allowed: samples 2, no rows, no columns, no unsigned pixels, a byte too few
    ∷ gives (with_at 0 (element "28000200" (us 2)) ∷ with_at 2 (element "28001000" (us 0)) ∷ with_at 3 (element "28001100" (us 0)) ∷ with_at 7 (element "28000301" (us 1)) ∷ with_at 2 (element "28001000" (us 2)) ∷ with_at 3 (element "28001100" (us 4)) ∷ []) (replicate 6 0x0106)
    -- spaces are pixels, and no text
    ∷ gives (with_at 8 (text "e07f1000" "  ") ∷ with_at 2 (text "28001000" "  ") ∷ []) (0 ∷ 0x0106 ∷ [])
    -- an item behind whose sequences all is still looked at
    ∷ gives (box_status eight ∷ box_status (take 2 eight ++ (three ∷ drop 2 eight)) ∷ box_status (without 3 eight) ∷ []) (0 ∷ 0 ∷ 0x0120 ∷ [])
    -- a number of four bytes is none
    ∷ gives (with_at 0 (element "28000200" (1 ∷ 0 ∷ 0 ∷ 0 ∷ [])) ∷ with_at 4 (element "28000001" (8 ∷ 0 ∷ 0 ∷ 0 ∷ [])) ∷ []) (0x0106 ∷ 0x0106 ∷ [])
    ∷ []

pub pictures_hold : AllHold pictures
unfolding the_book
pictures_hold = (refl, (refl, (refl, (refl, (refl, (refl, (refl, (refl, (refl, tt)))))))))
