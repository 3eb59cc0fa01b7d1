-- Requests: every class with every operation, commands that are unreadable, what comes first of two checks, and which instance is named.
-- Assumes nothing.
use mathlib.Core.Path.{refl}
use mathlib.Core.List.{List, [], ◌∷◌, ◌++◌, map}
use Prim.Native.Nat.{ℕ, zero, suc, ◌+◌}
use Prim.Native.String.{String}
use lib.ListN.{length, take, drop, replicate}
use Rattle.strike.specs.declared.Reading.{Reading}
use Rattle.strike.specs.declared.Reading.TheVariants.{NotReadable, Alone, WithData}
use Rattle.strike.specs.Service.{DataSet, no_data, whole, too_long}
use Rattle.rules.specs.declared.Core.{Core}
use Rattle.rules.specs.Text.{chars}
use Rattle.rules.specs.Lists.{from, without}
use Rattle.rules.specs.Records.{no_entry, with_queue}
use Rattle.rules.specs.Attributes.{film_create_standings, film_set_standings}
use Rattle.rules.specs.Checks.{decide}
use Rattle.rules.specs.Calls.{reading}
use Rattle.rules.proofs.Book.{the_book}
use Rattle.rules.proofs.Messages.{get, foreign, create_box, create_session, create_session5, create_live, create_film, set_nobody, set_other, set_box, act_two, print_session, print_film, cut_short, low, film71, moved, short_picture, erased}
use Rattle.rules.proofs.Stage.{hex, element, text, joined, implicit, judged, nothing_live, session_live, film_live, eight_films, no_pictures, collided, status, response, Example, gives, AllHold}

-- a UID of an odd number of characters, with its padding
abbrev uid : String → List ℕ
uid value = chars value ++ (0 ∷ [])

-- a command set with its group length
abbrev command : List (List ℕ) → List ℕ
command elements = element "00000000" (length (joined elements) ∷ 0 ∷ 0 ∷ 0 ∷ []) ++ joined elements

-- all that any of the five operations needs: class (twice), field, number 7, no data set, instance, action type
abbrev elements : String → String → String → String → List (List ℕ)
elements field class instance kind =
    element "00000200" (uid class)
    ∷ element "00000300" (uid class)
    ∷ element "00000001" (hex field)
    ∷ element "00001001" (hex "0700")
    ∷ element "00000008" (hex "0101")
    ∷ element "00000110" (uid instance)
    ∷ element "00000810" (hex kind)
    ∷ []

-- C-ECHO, N-CREATE, N-SET, N-ACTION, N-DELETE
abbrev fields : List String
fields = "3000" ∷ "4001" ∷ "2001" ∷ "3001" ∷ "5001" ∷ []

-- where nothing is live, no film is created without data, and nobody is set, printed or deleted
abbrev asked : String → List ℕ
asked class = map (λ field. status (decide nothing_live (command (elements field class "1.2.9" "0100")) no_data)) fields

abbrev offered : List Example
offered =
    gives (asked "1.2.840.10008.1.1") (0x0000 ∷ 0x0211 ∷ 0x0211 ∷ 0x0211 ∷ 0x0211 ∷ [])
    ∷ gives (asked "1.2.840.10008.5.1.1.1") (0x0211 ∷ 0x0000 ∷ 0x0112 ∷ 0x0112 ∷ 0x0112 ∷ [])
    ∷ gives (asked "1.2.840.10008.5.1.1.2") (0x0211 ∷ 0x0120 ∷ 0x0112 ∷ 0x0112 ∷ 0x0112 ∷ [])
    ∷ gives (asked "1.2.840.10008.5.1.1.4") (0x0211 ∷ 0x0211 ∷ 0x0112 ∷ 0x0211 ∷ 0x0211 ∷ [])
    ∷ gives (asked "1.2.840.10008.5.1.1.9") (replicate 5 0x0118)
    ∷ []

pub offered_hold : AllHold offered
unfolding the_book
offered_hold = (refl, (refl, (refl, (refl, (refl, tt)))))

-- Readable commands: unreadable 0, without data set 1, with one 2.

abbrev reading_number : Reading → ℕ
reading_number NotReadable = 0
reading_number Alone = 1
reading_number WithData = 2

abbrev read : List (List ℕ) → ℕ
read es = reading_number (reading (command es))

abbrev some : String → List (List ℕ)
some field = elements field "1.2.9" "1.2.9" "0100"

-- without each of the seven elements in turn
abbrev lacking : String → List ℕ
lacking field = map (λ i. read (without i (some field))) (from 0 7)

abbrev with_at : String → ℕ → List ℕ → ℕ
with_at field i e = read (take i (some field) ++ (e ∷ drop (suc i) (some field)))

-- each element with a value that breaks its rule: UIDs with a leading zero, numbers of four bytes
abbrev broken : String → List ℕ
broken field =
    with_at field 0 (element "00000200" (uid "1.002"))
    ∷ with_at field 1 (element "00000300" (uid "1.002"))
    ∷ with_at field 2 (element "00000001" (hex field ++ hex "0000"))
    ∷ with_at field 3 (element "00001001" (hex "07000000"))
    ∷ with_at field 4 (element "00000008" (hex "01010000"))
    ∷ with_at field 5 (element "00000110" (uid "1.002"))
    ∷ with_at field 6 (element "00000810" (hex "01000000"))
    ∷ []

-- a group length that is of so many more than one byte too few
abbrev told : ℕ → ℕ
told n = reading_number (reading (element "00000000" ((81 + n) ∷ 0 ∷ 0 ∷ 0 ∷ []) ++ joined (some "3000")))

-- (0000,0050) of undefined length, so many sequences within one another
abbrev nested : ℕ → List ℕ
nested zero = []
nested (suc n) = hex "00005000fffffffffeff00e0ffffffff" ++ (nested n ++ hex "feff0de000000000feffdde000000000")

abbrev behind : ℕ → List (List ℕ)
behind n = take 2 (some "3000") ++ (nested n ∷ drop 2 (some "3000"))

abbrev readings : List Example
readings =
    -- what each operation needs is there, and keeps its rule; the fifth field is unknown
    gives (lacking "3000") (0 ∷ 1 ∷ 0 ∷ 0 ∷ 0 ∷ 1 ∷ 1 ∷ [])
    ∷ gives (lacking "4001") (0 ∷ 1 ∷ 0 ∷ 0 ∷ 0 ∷ 1 ∷ 1 ∷ [])
    ∷ gives (lacking "2001") (1 ∷ 0 ∷ 0 ∷ 0 ∷ 0 ∷ 0 ∷ 1 ∷ [])
    ∷ gives (lacking "3001") (1 ∷ 0 ∷ 0 ∷ 0 ∷ 0 ∷ 0 ∷ 0 ∷ [])
    ∷ gives (lacking "5001") (1 ∷ 0 ∷ 0 ∷ 0 ∷ 0 ∷ 0 ∷ 1 ∷ [])
    ∷ gives (lacking "1001") (1 ∷ 1 ∷ 0 ∷ 0 ∷ 0 ∷ 1 ∷ 1 ∷ [])
    ∷ gives (broken "3000") (0 ∷ 1 ∷ 0 ∷ 0 ∷ 0 ∷ 1 ∷ 1 ∷ [])
    ∷ gives (broken "4001") (0 ∷ 1 ∷ 0 ∷ 0 ∷ 0 ∷ 1 ∷ 1 ∷ [])
    ∷ gives (broken "2001") (1 ∷ 0 ∷ 0 ∷ 0 ∷ 0 ∷ 0 ∷ 1 ∷ [])
    ∷ gives (broken "3001") (1 ∷ 0 ∷ 0 ∷ 0 ∷ 0 ∷ 0 ∷ 0 ∷ [])
    ∷ gives (broken "5001") (1 ∷ 0 ∷ 0 ∷ 0 ∷ 0 ∷ 0 ∷ 1 ∷ [])
    -- "Field 8000H and above: unreadable": 7FFFH, 8000H
    ∷ gives (read (some "ff7f") ∷ read (some "0080") ∷ []) (1 ∷ 0 ∷ [])
    -- "the first (0000,0000) equal to the bytes after it"
    ∷ gives (told 0 ∷ told 1 ∷ told 2 ∷ []) (0 ∷ 1 ∷ 0 ∷ [])
    -- "Without data set (type 0101H)": 0100H, 0001H and 0000H are with one
    ∷ gives (with_at "3000" 4 (element "00000008" (hex "0001")) ∷ with_at "3000" 4 (element "00000008" (hex "0100")) ∷ with_at "3000" 4 (element "00000008" (hex "0000")) ∷ []) (2 ∷ 2 ∷ 2 ∷ [])
    -- "elements all in group 0000": (0000,FFFF), (0001,0000)
    ∷ gives (read (some "3000" ++ (element "0000ffff" [] ∷ [])) ∷ read (some "3000" ++ (element "01000000" [] ∷ [])) ∷ []) (1 ∷ 0 ∷ [])
    -- behind four sequences within one another all is still looked at; a fifth is refused
    ∷ gives (read (behind 4) ∷ read (behind 4 ++ (element "01000000" [] ∷ [])) ∷ read (behind 5) ∷ []) (1 ∷ 0 ∷ 0 ∷ [])
    -- a command that breaks the grammar
    ∷ gives (read (some "3000" ++ (hex "0000001102000000" ∷ [])) ∷ []) (0 ∷ [])
    ∷ []

pub readings_hold : AllHold readings
unfolding the_book
readings_hold = (refl, (refl, (refl, (refl, (refl, (refl, (refl, (refl, (refl, (refl, (refl, (refl, (refl, (refl, (refl, (refl, (refl, tt)))))))))))))))))

-- Which check comes first.

abbrev answer : Core → List ℕ → DataSet → ℕ
answer k c d = status (decide k c d)

-- N-ACTION of type 2 on an instance, as a film
abbrev act_film : String → List ℕ
act_film instance = command (elements "3001" "1.2.840.10008.5.1.1.2" instance "0200")

-- N-CREATE of a session by a UID that is live and begins with root and a dot
abbrev create_made : List ℕ
create_made = command (take 5 (elements "4001" "1.2.840.10008.5.1.1.1" "1.2.9" "0100") ++ (element "00000010" (uid "1.9.7.100") ∷ []))

abbrev full_and_collided : Core
full_and_collided = with_queue (replicate 16 no_entry) collided

abbrev first : List Example
first =
    -- 2 and 3 before 4, 4 and 5 before 6
    gives (answer session_live foreign too_long ∷ answer session_live create_box too_long ∷ answer nothing_live create_session5 too_long ∷ answer nothing_live create_session5 (whole cut_short) ∷ answer session_live set_nobody (whole cut_short) ∷ []) (0x0118 ∷ 0x0211 ∷ 0x0213 ∷ 0x0110 ∷ 0x0110 ∷ [])
    -- 6: 0117H before 0111H; 6 before 7, 7 before 10
    ∷ gives (answer film_live create_made no_data ∷ answer film_live (act_film "1.2.9") no_data ∷ answer film_live (act_film "1.2.3") no_data ∷ answer session_live act_two no_data ∷ []) (0x0117 ∷ 0x0112 ∷ 0x0119 ∷ 0x0123 ∷ [])
    -- 6 before 8, 8 before 9
    ∷ gives (answer session_live set_nobody (whole low) ∷ answer film_live set_other (whole low) ∷ answer session_live create_live (whole low) ∷ answer session_live create_session (whole low) ∷ answer eight_films create_film (whole film71) ∷ answer no_pictures set_box (whole short_picture) ∷ []) (0x0112 ∷ 0x0119 ∷ 0x0111 ∷ 0x0106 ∷ 0x0106 ∷ 0x0106 ∷ [])
    -- 10: C604H before too little room
    ∷ gives (answer full_and_collided print_session no_data ∷ answer full_and_collided print_film no_data ∷ []) (0xC604 ∷ 0xC604 ∷ [])
    -- 9: with no picture number left a box is still moved and erased
    ∷ gives (answer no_pictures set_box (whole moved) ∷ answer no_pictures set_box (whole erased) ∷ []) (0x0000 ∷ 0x0000 ∷ [])
    ∷ []

pub first_hold : AllHold first
unfolding the_book
first_hold = (refl, (refl, (refl, (refl, (refl, tt)))))

-- The response: "An unknown field's response has no class, instance or action"; a failed create leaves the instance out if none was
-- sent, a failed set names it.

abbrev named : List Example
named =
    gives (response (decide session_live get no_data)) (hex "00000000040000002800000000000001020000001081000020010200000009000000000802000000010100000009020000001102")
    ∷ gives (response (decide session_live create_session no_data)) (hex "0000000004000000460000000000020016000000312e322e3834302e31303030382e352e312e312e310000000001020000004081000020010200000001000000000802000000010100000009020000001302")
    ∷ gives (response (decide session_live set_nobody no_data)) (hex "0000000004000000540000000000020016000000312e322e3834302e31303030382e352e312e312e3100000000010200000020810000200102000000010000000008020000000101000000090200000012010000001006000000312e322e3400")
    ∷ []

pub named_hold : AllHold named
unfolding the_book
named_hold = (refl, (refl, (refl, tt)))

-- Films: what stands in their data sets, in session 1.2.3.

abbrev reference : List ℕ → List ℕ
reference items = element "10200005" items

abbrev item : List ℕ → List ℕ
item inside = element "feff00e0" inside

abbrev class : String → List ℕ
class value = element "08005011" (uid value)

abbrev instance : String → List ℕ
instance value = element "08005511" (uid value)

abbrev the_session : List ℕ
the_session = item (class "1.2.840.10008.5.1.1.1" ++ instance "1.2.3")

abbrev format : List ℕ
format = text "10201000" "STANDARD\\1,1"

abbrev film_status : List ℕ → ℕ
film_status d = judged (film_create_standings session_live (implicit d))

abbrev set_status : List ℕ → ℕ
set_status d = judged (film_set_standings (implicit d))

abbrev films : List Example
films =
    gives (film_status (format ++ reference the_session) ∷ film_status (text "10201000" "ROW\\1 " ++ reference the_session) ∷ []) (0 ∷ 0 ∷ [])
    -- missing, also where another is empty, and empty where another is not allowed
    ∷ gives (film_status (reference the_session) ∷ film_status format ∷ film_status (format ++ reference (item (instance "1.2.3"))) ∷ film_status (format ++ reference (item (class "1.2.840.10008.5.1.1.1"))) ∷ film_status (text "10201000" "") ∷ []) (replicate 5 0x0120)
    ∷ gives (film_status (text "10201000" "  " ++ reference the_session) ∷ film_status (format ++ reference []) ∷ film_status (format ++ reference (item (element "08005011" [] ++ instance "1.2.3"))) ∷ film_status (format ++ reference (item (class "1.2.840.10008.5.1.1.1" ++ element "08005511" []))) ∷ film_status (text "10201000" "NONSENSE" ++ reference []) ∷ []) (replicate 5 0x0121)
    -- another class, another instance, two items, a wrong value among the optional ones
    ∷ gives (film_status (format ++ reference (item (class "1.2.840.10008.5.1.1.2" ++ instance "1.2.3"))) ∷ film_status (format ++ reference (item (class "1.2.840.10008.5.1.1.1" ++ instance "1.2.4"))) ∷ film_status (format ++ reference (the_session ++ the_session)) ∷ film_status (format ++ (text "10204000" "SKEW" ++ reference the_session)) ∷ film_status (format ++ (text "10206000" "MUCH" ++ reference the_session)) ∷ []) (replicate 5 0x0106)
    -- spaces are no UID, and no empty one
    ∷ gives (film_status (format ++ reference (item (class "1.2.840.10008.5.1.1.1" ++ text "08005511" "  "))) ∷ []) (0x0106 ∷ [])
    -- no session is live
    ∷ gives (judged (film_create_standings nothing_live (implicit (format ++ reference the_session))) ∷ []) (0x0106 ∷ [])
    -- "The first two in N-SET, even empty: 0106H."
    ∷ gives (set_status [] ∷ set_status format ∷ set_status (text "10201000" "") ∷ set_status (reference the_session) ∷ set_status (reference []) ∷ []) (0 ∷ 0x0106 ∷ 0x0106 ∷ 0x0106 ∷ 0x0106 ∷ [])
    ∷ []

pub films_hold : AllHold films
unfolding the_book
films_hold = (refl, (refl, (refl, (refl, (refl, (refl, (refl, tt)))))))
