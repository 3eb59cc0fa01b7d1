-- Every code of the rules with its number, a text that is none, and what is kept where a value is absent; classes and operations.
-- Assumes nothing.
use mathlib.Core.Path.{refl}
use mathlib.Core.List.{List, [], ◌∷◌, ◌++◌, map}
use Prim.Native.Nat.{ℕ}
use Prim.Native.String.{String}
use lib.ListN.{take}
use Rattle.choice.specs.Pick.{pick}
use Rattle.rules.specs.declared.Film.{Film}
use Rattle.rules.specs.declared.Session.{Session}
use Rattle.rules.specs.declared.Operation.{Operation}
use Rattle.rules.specs.declared.Operation.TheVariants.{Echo, Create, Set, Act, Delete}
use Rattle.rules.specs.Text.{chars}
use Rattle.rules.specs.declared.Instance.TheVariants.{Nobody, TheSession, TheFilm, TheBox}
use Rattle.rules.specs.Records.{no_film, no_name}
use Rattle.rules.specs.Commands.{no_part}
use Rattle.rules.specs.Attributes.{session_standings, session_with, film_set_standings, film_with, box_standings, box_with}
use Rattle.rules.specs.declared.Class.{Class}
use Rattle.rules.specs.declared.Class.TheVariants.{Verification, Sessions, Films, Boxes, UnknownClass}
use Rattle.rules.specs.Checks.{class_of, offers, of_class}
use Rattle.rules.proofs.Book.{the_book}
use Rattle.rules.proofs.Stage.{element, text, implicit, judged, some_session, Example, gives, AllHold}

abbrev session : List ℕ → Session
session d = session_with (implicit d) some_session

abbrev session_status : List ℕ → ℕ
session_status d = judged (session_standings (implicit d))

abbrev priority : String → List ℕ
priority value = (session (text "00202000" value)).priority ∷ session_status (text "00202000" value) ∷ []

abbrev medium : String → List ℕ
medium value = (session (text "00203000" value)).medium ∷ session_status (text "00203000" value) ∷ []

abbrev destination : String → List ℕ
destination value = (session (text "00204000" value)).destination ∷ session_status (text "00204000" value) ∷ []

-- copies, priority, medium, destination, length of the label and its first bytes
abbrev session_numbers : Session → List ℕ
session_numbers s = s.copies ∷ s.priority ∷ s.medium ∷ s.destination ∷ s.used ∷ take 3 s.label

abbrev some_film : Film
some_film = record {
  name = no_name;
  session = 58;
  layout = no_film.layout;
  orientation = 56;
  magnification = 57;
  first = no_film.first;
  boxes = [];
}

abbrev film : List ℕ → Film
film d = film_with (implicit d) some_film

abbrev film_status : List ℕ → ℕ
film_status d = judged (film_set_standings (implicit d))

abbrev orientation : String → List ℕ
orientation value = (film (text "10204000" value)).orientation ∷ film_status (text "10204000" value) ∷ []

abbrev magnification : String → List ℕ
magnification value = (film (text "10206000" value)).magnification ∷ film_status (text "10206000" value) ∷ []

-- Position 2, and a polarity
abbrev box_data : String → List ℕ
box_data value = element "20201000" (2 ∷ 0 ∷ []) ++ text "20202000" value

abbrev polarity : String → List ℕ
polarity value = (box_with 9 (implicit (box_data value)) (record { position = 1; polarity = 58; picture = record { 0 = 3 } })).polarity ∷ judged (box_standings 6 (implicit (box_data value))) ∷ []

abbrev each_text : (String → List ℕ) → List String → List ℕ
each_text f [] = []
each_text f (t ∷ ts) = f t ++ each_text f ts

abbrev codes : List Example
codes =
    -- "Priority (2000,0020) LOW MED HIGH": the number, and 0106H for another; spaces, and nothing but spaces
    gives (each_text priority ("LOW " ∷ "MED " ∷ "HIGH" ∷ "  MED " ∷ "MEDIUM" ∷ "    " ∷ [])) (0 ∷ 0 ∷ 1 ∷ 0 ∷ 2 ∷ 0 ∷ 1 ∷ 0 ∷ 3 ∷ 0x0106 ∷ 51 ∷ 0 ∷ [])
    -- "Medium (2000,0030) PAPER, CLEAR FILM, BLUE FILM"
    ∷ gives (each_text medium ("PAPER " ∷ "CLEAR FILM" ∷ "BLUE FILM " ∷ "CLEAR " ∷ "  " ∷ [])) (0 ∷ 0 ∷ 1 ∷ 0 ∷ 2 ∷ 0 ∷ 3 ∷ 0x0106 ∷ 52 ∷ 0 ∷ [])
    -- "Destination (2000,0040) MAGAZINE PROCESSOR"
    ∷ gives (each_text destination ("MAGAZINE" ∷ "PROCESSOR " ∷ "BIN_1 " ∷ "  " ∷ [])) (0 ∷ 0 ∷ 1 ∷ 0 ∷ 2 ∷ 0x0106 ∷ 53 ∷ 0 ∷ [])
    -- "Orientation (2010,0040) PORTRAIT LANDSCAPE"
    ∷ gives (each_text orientation ("PORTRAIT" ∷ "LANDSCAPE " ∷ "PORTRAY " ∷ "  " ∷ [])) (0 ∷ 0 ∷ 1 ∷ 0 ∷ 2 ∷ 0x0106 ∷ 56 ∷ 0 ∷ [])
    -- "Magnification (2010,0060) NONE REPLICATE BILINEAR CUBIC"
    ∷ gives (each_text magnification ("NONE" ∷ "REPLICATE " ∷ "BILINEAR" ∷ "CUBIC " ∷ "LINEAR" ∷ "  " ∷ [])) (0 ∷ 0 ∷ 1 ∷ 0 ∷ 2 ∷ 0 ∷ 3 ∷ 0 ∷ 4 ∷ 0x0106 ∷ 57 ∷ 0 ∷ [])
    -- "Polarity (2020,0020) NORMAL REVERSE"
    ∷ gives (each_text polarity ("NORMAL" ∷ "REVERSE " ∷ "INVERSE " ∷ "  " ∷ [])) (0 ∷ 0 ∷ 1 ∷ 0 ∷ 2 ∷ 0x0106 ∷ 58 ∷ 0 ∷ [])
    -- "absent in N-SET keeps": the session, by an empty data set and by empty values
    ∷ gives (session_numbers (session [])) (50 ∷ 51 ∷ 52 ∷ 53 ∷ 2 ∷ 54 ∷ 55 ∷ 0 ∷ [])
    ∷ gives (session_numbers (session (text "00201000" "  " ++ (text "00202000" "" ++ (text "00203000" "" ++ (text "00204000" "  " ++ text "00205000" "  ")))))) (50 ∷ 51 ∷ 52 ∷ 53 ∷ 2 ∷ 54 ∷ 55 ∷ 0 ∷ [])
    -- a label without the spaces about it
    ∷ gives (session_numbers (session (text "00205000" "  a "))) (50 ∷ 51 ∷ 52 ∷ 53 ∷ 1 ∷ 97 ∷ 0 ∷ 0 ∷ [])
    ∷ []

pub codes_hold : AllHold codes
unfolding the_book
codes_hold = (refl, (refl, (refl, (refl, (refl, (refl, (refl, (refl, (refl, tt)))))))))

-- Classes: which a UID is, which operations each has, which instances are of it.

abbrev class_number : Class → ℕ
class_number Verification = 0
class_number Sessions = 1
class_number Films = 2
class_number Boxes = 3
class_number UnknownClass = 4

abbrev class_named : String → ℕ
class_named uid = class_number (class_of (chars uid))

-- C-ECHO, N-CREATE, N-SET, N-ACTION, N-DELETE
abbrev operations : List Operation
operations =
    Echo (record { class = no_part })
    ∷ Create (record { class = no_part; sent = no_part })
    ∷ Set (record { class = no_part; instance = no_part })
    ∷ Act (record { class = no_part; instance = no_part; kind = 1 })
    ∷ Delete (record { class = no_part; instance = no_part })
    ∷ []

abbrev offered : Class → List ℕ
offered c = map (λ o. pick (offers c o) 1 0) operations

abbrev has : Class → List ℕ
has c = map (λ i. pick (of_class c i) 1 0) (Nobody ∷ TheSession ∷ TheFilm 0 ∷ TheBox 0 0 ∷ [])

abbrev classes : List Example
classes =
    gives (map class_named ("1.2.840.10008.1.1" ∷ "1.2.840.10008.5.1.1.1" ∷ "1.2.840.10008.5.1.1.2" ∷ "1.2.840.10008.5.1.1.4" ∷ "1.2.840.10008.5.1.1.9" ∷ "1.2.840.10008.5.1.1" ∷ [])) (0 ∷ 1 ∷ 2 ∷ 3 ∷ 4 ∷ 4 ∷ [])
    -- "session, film: the four N; image box: N-SET; Verification: C-ECHO"
    ∷ gives (offered Verification ++ (offered Sessions ++ (offered Films ++ (offered Boxes ++ offered UnknownClass)))) (1 ∷ 0 ∷ 0 ∷ 0 ∷ 0 ∷ 0 ∷ 1 ∷ 1 ∷ 1 ∷ 1 ∷ 0 ∷ 1 ∷ 1 ∷ 1 ∷ 1 ∷ 0 ∷ 0 ∷ 1 ∷ 0 ∷ 0 ∷ 0 ∷ 0 ∷ 0 ∷ 0 ∷ 0 ∷ [])
    -- "live in another class"
    ∷ gives (has Verification ++ (has Sessions ++ (has Films ++ (has Boxes ++ has UnknownClass)))) (0 ∷ 0 ∷ 0 ∷ 0 ∷ 0 ∷ 1 ∷ 0 ∷ 0 ∷ 0 ∷ 0 ∷ 1 ∷ 0 ∷ 0 ∷ 0 ∷ 0 ∷ 1 ∷ 0 ∷ 0 ∷ 0 ∷ 0 ∷ [])
    ∷ []

pub classes_hold : AllHold classes
unfolding the_book
classes_hold = (refl, (refl, (refl, tt)))
