-- Rules of the records: records that keep them all, and for each rule some that break it alone, computed.
-- Assumes nothing.
use mathlib.Core.Path.{refl}
use mathlib.Core.Bool.{Bool}
use mathlib.Core.List.{List, [], ◌∷◌, ◌++◌, map}
use Prim.Native.Nat.{ℕ, ◌-◌}
use lib.ListN.{length, replicate}
use Rattle.choice.specs.Pick.{pick}
use Rattle.rules.specs.declared.Name.{Name}
use Rattle.rules.specs.declared.Session.{Session}
use Rattle.rules.specs.declared.ImageBox.{ImageBox}
use Rattle.rules.specs.declared.Layout.{Layout}
use Rattle.rules.specs.declared.Film.{Film}
use Rattle.rules.specs.declared.Shelf.{Shelf}
use Rattle.rules.specs.declared.Entry.{Entry}
use Rattle.rules.specs.declared.Queue.{Queue}
use Rattle.rules.specs.declared.Numbers.{Numbers}
use Rattle.rules.specs.declared.Opened.{Opened}
use Rattle.rules.specs.declared.Input.{Input}
use Rattle.rules.specs.declared.State.{State}
use Rattle.rules.specs.Text.{chars}
use Rattle.rules.specs.Lists.{filled_to}
use Rattle.rules.specs.Records.{serial, picture, no_name, made_name, sent_name, no_box, no_film, no_entry, no_session, shelved, queued, not_open}
use Rattle.rules.specs.Sound.{name_sound, numbers_sound, session_sound, session_blank, layout_sound, film_sound, film_blank, shelf_sound, entry_sound, entry_blank, queue_sound, uids_apart, opened_sound, input_sound, sound}
use Rattle.rules.proofs.Book.{the_book}
use Rattle.rules.proofs.Messages.{echo}
use Rattle.rules.proofs.Stage.{entry_of, Example, gives, AllHold}

abbrev each : {A : Type 0} → (A → Bool) → List A → List ℕ
each test xs = map (λ x. pick (test x) 1 0) xs

abbrev none : ℕ → List ℕ
none n = replicate n 0

-- The numbers: root 1.9.7, next serial 107, next picture 3.

abbrev numbers_of : List ℕ → List ℕ → ℕ → ℕ → Numbers
numbers_of root behind serial picture = record { used = length root; root = root ++ behind; serial = serial; picture = picture; ticket = 65535 }

abbrev numbers : Numbers
numbers = numbers_of (chars "1.9.7") (replicate 35 0) 107 3

-- A name.

abbrev name_of : ℕ → ℕ → List ℕ → Name
name_of made used text = record { made = serial made; used = used; text = text }

abbrev sent : List ℕ → List ℕ → Name
sent uid behind = name_of 0 (length uid) (uid ++ behind)

-- A session, by its copies, priority, medium, destination, label and what stands behind the label.

abbrev session_of : ℕ → Name → ℕ → ℕ → ℕ → ℕ → List ℕ → List ℕ → Session
session_of live name copies priority medium destination label behind = record {
  live = live;
  name = name;
  copies = copies;
  priority = priority;
  medium = medium;
  destination = destination;
  used = length label;
  label = label ++ behind;
}

abbrev session : Session
session = session_of 1 (made_name 100) 99 2 2 1 (chars "a b") (replicate 61 0)

-- a label that is said to have a byte more than there is room for
abbrev overlong : Session
overlong = record {
  live = 1;
  name = made_name 100;
  copies = 99;
  priority = 2;
  medium = 2;
  destination = 1;
  used = 65;
  label = replicate 64 97;
}

-- A film of two boxes in one row, the first of which has picture 2.

abbrev box_of : ℕ → ℕ → ℕ → ImageBox
box_of position polarity n = record { position = position; polarity = polarity; picture = picture n }

abbrev layout_of : ℕ → ℕ → List ℕ → Layout
layout_of kind lines counts = record { kind = kind; lines = lines; counts = counts }

abbrev two : Layout
two = layout_of 1 1 (2 ∷ none 5)

abbrev film_of : Name → Layout → ℕ → ℕ → ℕ → List ImageBox → Film
film_of name layout orientation magnification first boxes = record { name = name; session = 0; layout = layout; orientation = orientation; magnification = magnification; first = serial first; boxes = boxes }

abbrev boxes_of : ImageBox → ImageBox → ImageBox → List ImageBox
boxes_of a b behind = filled_to 36 no_box (a ∷ b ∷ behind ∷ [])

abbrev boxes : List ImageBox
boxes = boxes_of (box_of 2 1 2) (box_of 1 0 0) no_box

abbrev film : Film
film = film_of (sent_name (chars "1.9.70.5")) two 1 3 105 boxes

-- the same by a serial of its own, with its boxes from another on
abbrev made : ℕ → ℕ → Film
made own first = film_of (made_name own) two 0 0 first boxes

-- the same of the session at another place
abbrev elsewhere : ℕ → Film → Film
elsewhere i f = record { name = f.name; session = i; layout = f.layout; orientation = f.orientation; magnification = f.magnification; first = f.first; boxes = f.boxes }

-- An entry.

abbrev entry_with : ℕ → ℕ → ℕ → Name → Entry
entry_with n = entry_of (filled_to 36 (picture 0) (picture n ∷ []))

abbrev entry : Entry
entry = entry_with 2 65535 99 (made_name 104)

abbrev shelf_of : ℕ → List Film → Shelf
shelf_of count films = record { count = count; films = films }

abbrev queue_of : ℕ → List Entry → Queue
queue_of count entries = record { count = count; entries = entries }

-- What open fixed, and the input: phase, command and what stands behind it, bytes of data.

abbrev opened_of : ℕ → ℕ → ℕ → ℕ → Opened
opened_of live context syntax room = record { live = live; context = context; syntax = syntax; room = room }

abbrev opened : Opened
opened = opened_of 1 255 2 4096

abbrev input_of : ℕ → List ℕ → List ℕ → ℕ → Input
input_of phase command behind got = record { phase = phase; used = length command; got = got; command = command ++ behind }

abbrev behind_echo : List ℕ
behind_echo = replicate (1024 - length echo) 0

abbrev state_of : Numbers → Session → Shelf → Queue → Opened → Input → State
state_of numbers session shelf queue opened input = record {
  core = record { numbers = numbers; sessions = session ∷ []; shelf = shelf; queue = queue; opened = opened };
  input = input;
}

abbrev parts : List Example
parts =
    -- "root at most 40", a UID, zeros behind it; next numbers from 1 to one past the last
    gives (each numbers_sound (numbers ∷ numbers_of (replicate 40 49) [] 1 1 ∷ numbers_of (chars "1.9.7") (replicate 35 0) 4294967296 4294967296 ∷ [])) (1 ∷ 1 ∷ 1 ∷ [])
    ∷ gives (each numbers_sound (numbers_of (replicate 41 49) [] 107 3 ∷ numbers_of [] (replicate 40 0) 107 3 ∷ numbers_of (chars "1.02") (replicate 36 0) 107 3 ∷ numbers_of (chars "1.9.7") (replicate 34 0 ++ (1 ∷ [])) 107 3 ∷ numbers_of (chars "1.9.7") (replicate 35 0) 0 3 ∷ numbers_of (chars "1.9.7") (replicate 35 0) 4294967297 3 ∷ numbers_of (chars "1.9.7") (replicate 35 0) 107 0 ∷ numbers_of (chars "1.9.7") (replicate 35 0) 107 4294967297 ∷ [])) (none 8)
    -- a sent name: a UID that doesn't begin with root and a dot, zeros behind it; a made one: below the next serial, and nothing else
    ∷ gives (each (name_sound numbers) (sent_name (chars "1.9.70.5") ∷ sent (replicate 64 49) [] ∷ made_name 106 ∷ [])) (1 ∷ 1 ∷ 1 ∷ [])
    ∷ gives (each (name_sound numbers) (sent_name (chars "1.02") ∷ sent_name (chars "1.9.7.5") ∷ sent (chars "1.9.70.5") (replicate 55 0 ++ (1 ∷ [])) ∷ no_name ∷ name_of 0 65 (replicate 64 49) ∷ made_name 107 ∷ name_of 106 1 (replicate 64 0) ∷ name_of 106 0 (replicate 63 0 ++ (1 ∷ [])) ∷ [])) (none 8)
    -- "fields hold allowed values": a session
    ∷ gives (each (session_sound numbers) (session ∷ session_of 1 (made_name 100) 1 0 0 0 [] (replicate 64 0) ∷ session_of 1 (made_name 100) 1 0 0 0 (replicate 64 97) [] ∷ [])) (1 ∷ 1 ∷ 1 ∷ [])
    ∷ gives (each (session_sound numbers) (session_of 1 no_name 99 2 2 1 [] (replicate 64 0) ∷ session_of 1 (made_name 100) 0 2 2 1 [] (replicate 64 0) ∷ session_of 1 (made_name 100) 100 2 2 1 [] (replicate 64 0) ∷ session_of 1 (made_name 100) 99 3 2 1 [] (replicate 64 0) ∷ session_of 1 (made_name 100) 99 2 3 1 [] (replicate 64 0) ∷ session_of 1 (made_name 100) 99 2 2 2 [] (replicate 64 0) ∷ session_of 1 (made_name 100) 99 2 2 1 (31 ∷ []) (replicate 63 0) ∷ session_of 1 (made_name 100) 99 2 2 1 (chars "a ") (replicate 62 0) ∷ session_of 1 (made_name 100) 99 2 2 1 (chars "a b") (replicate 60 0 ++ (1 ∷ [])) ∷ overlong ∷ [])) (none 10)
    -- no session: zeros
    ∷ gives (each session_blank (no_session ∷ session_of 0 (made_name 1) 0 0 0 0 [] (replicate 64 0) ∷ session_of 0 (name_of 0 1 (replicate 64 0)) 0 0 0 0 [] (replicate 64 0) ∷ session_of 0 (name_of 0 0 (replicate 63 0 ++ (1 ∷ []))) 0 0 0 0 [] (replicate 64 0) ∷ session_of 0 no_name 1 0 0 0 [] (replicate 64 0) ∷ session_of 0 no_name 0 1 0 0 [] (replicate 64 0) ∷ session_of 0 no_name 0 0 1 0 [] (replicate 64 0) ∷ session_of 0 no_name 0 0 0 1 [] (replicate 64 0) ∷ session_of 0 no_name 0 0 0 0 (0 ∷ []) (replicate 63 0) ∷ session_of 0 no_name 0 0 0 0 [] (replicate 63 0 ++ (1 ∷ [])) ∷ [])) (1 ∷ none 9)
    -- "1 to 6 lines of 1 to 6 boxes each"
    ∷ gives (each layout_sound (two ∷ layout_of 0 6 (6 ∷ 1 ∷ 1 ∷ 1 ∷ 1 ∷ 6 ∷ []) ∷ layout_of 2 1 (2 ∷ none 5) ∷ [])) (1 ∷ 1 ∷ 1 ∷ [])
    ∷ gives (each layout_sound (layout_of 3 1 (2 ∷ none 5) ∷ layout_of 0 0 (none 6) ∷ layout_of 0 7 (replicate 7 1) ∷ layout_of 0 2 (1 ∷ none 5) ∷ layout_of 0 2 (7 ∷ 1 ∷ none 4) ∷ layout_of 0 1 (1 ∷ none 4 ++ (1 ∷ [])) ∷ [])) (none 6)
    -- a film: its name, layout, codes, serials below the next; boxes as many as its layout has, blanks behind them
    ∷ gives (each (film_sound numbers) (film ∷ made 1 2 ∷ [])) (1 ∷ 1 ∷ [])
    ∷ gives (each (film_sound numbers) (film_of no_name two 1 3 105 boxes ∷ film_of (made_name 100) (layout_of 3 1 (2 ∷ none 5)) 1 3 105 boxes ∷ film_of (made_name 100) two 2 3 105 boxes ∷ film_of (made_name 100) two 1 4 105 boxes ∷ film_of (made_name 100) two 1 3 0 boxes ∷ film_of (made_name 100) two 1 3 106 boxes ∷ [])) (none 6)
    ∷ gives (each (film_sound numbers) (film_of (made_name 100) two 1 3 105 (boxes_of (box_of 0 1 2) (box_of 1 0 0) no_box) ∷ film_of (made_name 100) two 1 3 105 (boxes_of (box_of 2 1 2) (box_of 3 0 0) no_box) ∷ film_of (made_name 100) two 1 3 105 (boxes_of (box_of 2 2 2) (box_of 1 0 0) no_box) ∷ film_of (made_name 100) two 1 3 105 (boxes_of (box_of 2 1 3) (box_of 1 0 0) no_box) ∷ film_of (made_name 100) two 1 3 105 (boxes_of (box_of 2 1 2) (box_of 1 0 0) (box_of 1 0 0)) ∷ film_of (made_name 100) two 1 3 105 (boxes_of (box_of 2 1 2) (box_of 1 0 0) (box_of 0 1 0)) ∷ film_of (made_name 100) two 1 3 105 (boxes_of (box_of 2 1 2) (box_of 1 0 0) (box_of 0 0 1)) ∷ [])) (none 7)
    -- no film: zeros
    ∷ gives (each film_blank (no_film ∷ elsewhere 1 no_film ∷ film_of (made_name 1) (layout_of 0 0 (none 6)) 0 0 0 (replicate 36 no_box) ∷ film_of no_name (layout_of 1 0 (none 6)) 0 0 0 (replicate 36 no_box) ∷ film_of no_name (layout_of 0 1 (none 6)) 0 0 0 (replicate 36 no_box) ∷ film_of no_name (layout_of 0 0 (none 5 ++ (1 ∷ []))) 0 0 0 (replicate 36 no_box) ∷ film_of no_name (layout_of 0 0 (none 6)) 1 0 0 (replicate 36 no_box) ∷ film_of no_name (layout_of 0 0 (none 6)) 0 1 0 (replicate 36 no_box) ∷ film_of no_name (layout_of 0 0 (none 6)) 0 0 1 (replicate 36 no_box) ∷ film_of no_name (layout_of 0 0 (none 6)) 0 0 0 (replicate 35 no_box ++ (box_of 0 0 1 ∷ [])) ∷ [])) (1 ∷ none 9)
    -- "films only under it", at most 8, each sound, blanks behind them
    ∷ gives (each (shelf_sound numbers (session ∷ [])) (shelved (film ∷ []) ∷ shelved (replicate 8 film) ∷ shelved (replicate 9 film) ∷ shelved (made 107 1 ∷ []) ∷ shelf_of 0 (film ∷ []) ∷ [])) (1 ∷ 1 ∷ none 3)
    ∷ gives (each (shelf_sound numbers (no_session ∷ [])) (shelved [] ∷ shelved (film ∷ []) ∷ [])) (1 ∷ 0 ∷ [])
    -- by its own place, whatever the others hold
    ∷ gives (each (shelf_sound numbers (no_session ∷ session ∷ [])) (shelved (elsewhere 1 film ∷ []) ∷ shelved (film ∷ []) ∷ shelved (elsewhere 2 film ∷ []) ∷ [])) (1 ∷ 0 ∷ 0 ∷ [])
    -- an entry: pictures below the next, copies, a name
    ∷ gives (each (entry_sound numbers) (entry ∷ entry_with 0 0 1 (made_name 104) ∷ entry_with 3 0 1 (made_name 104) ∷ entry_with 2 0 0 (made_name 104) ∷ entry_with 2 0 100 (made_name 104) ∷ entry_with 2 0 1 (made_name 107) ∷ [])) (1 ∷ 1 ∷ none 4)
    ∷ gives (each entry_blank (no_entry ∷ entry_with 1 0 0 no_name ∷ entry_with 0 1 0 no_name ∷ entry_with 0 0 1 no_name ∷ entry_with 0 0 0 (made_name 1) ∷ [])) (1 ∷ none 4)
    -- at most 16 of them, each sound, blanks behind them
    ∷ gives (each (queue_sound numbers) (queued (entry ∷ []) ∷ queued (replicate 16 entry) ∷ queued (replicate 17 entry) ∷ queued (no_entry ∷ []) ∷ queue_of 0 (entry ∷ []) ∷ [])) (1 ∷ 1 ∷ none 3)
    ∷ []

pub parts_hold : AllHold parts
unfolding the_book
parts_hold = (refl, (refl, (refl, (refl, (refl, (refl, (refl, (refl, (refl, (refl, (refl, (refl, (refl, (refl, (refl, (refl, (refl, (refl, (refl, tt)))))))))))))))))))

-- "UIDs differ": session and film, a film and its boxes, boxes of two films, sent ones; neighbours, and made ones, which have no text, do.

abbrev apart_from : Session → List (List Film) → List ℕ
apart_from s films = each (uids_apart (s ∷ [])) films

abbrev sent_session : Session
sent_session = session_of 1 (sent_name (chars "1.2.3")) 1 0 0 0 [] (replicate 64 0)

abbrev named : List ℕ → ℕ → Film
named uid first = film_of (sent_name uid) two 0 0 first boxes

abbrev wholes : List Example
wholes =
    gives (apart_from session ((made 101 102 ∷ made 104 105 ∷ []) ∷ (made 104 105 ∷ made 101 102 ∷ []) ∷ [])) (1 ∷ 1 ∷ [])
    ∷ gives (apart_from session ((made 100 102 ∷ []) ∷ (made 101 99 ∷ []) ∷ (made 101 100 ∷ []) ∷ (made 101 101 ∷ []) ∷ (made 102 101 ∷ []) ∷ (made 101 102 ∷ made 101 105 ∷ []) ∷ (made 101 102 ∷ made 104 103 ∷ []) ∷ (made 101 103 ∷ made 106 102 ∷ []) ∷ [])) (none 8)
    ∷ gives (apart_from sent_session ((named (chars "1.2.4") 102 ∷ named (chars "1.2.5") 104 ∷ []) ∷ (named (chars "1.2.3") 102 ∷ []) ∷ (named (chars "1.2.4") 102 ∷ named (chars "1.2.4") 104 ∷ []) ∷ [])) (1 ∷ 0 ∷ 0 ∷ [])
    -- two sessions by a serial, and by what was sent
    ∷ gives (each (λ sessions. uids_apart sessions (made 101 102 ∷ [])) ((session ∷ no_session ∷ sent_session ∷ []) ∷ (session ∷ session ∷ []) ∷ (sent_session ∷ sent_session ∷ []) ∷ [])) (1 ∷ 0 ∷ 0 ∷ [])
    -- what open fixed: an odd context number to 255, a syntax, a length within the limits; zeros where not open
    ∷ gives (each opened_sound (opened ∷ opened_of 1 1 1 16777216 ∷ not_open ∷ [])) (1 ∷ 1 ∷ 1 ∷ [])
    ∷ gives (each opened_sound (opened_of 2 255 2 4096 ∷ opened_of 1 254 2 4096 ∷ opened_of 1 257 2 4096 ∷ opened_of 1 255 0 4096 ∷ opened_of 1 255 3 4096 ∷ opened_of 1 255 2 4095 ∷ opened_of 1 255 2 16777217 ∷ opened_of 0 1 0 0 ∷ opened_of 0 0 1 0 ∷ opened_of 0 0 0 1 ∷ [])) (none 10)
    -- the input in its five states: "input fits its buffers, in data or skipping data with a readable command"
    ∷ gives (each (input_sound opened) (input_of 0 [] (replicate 1024 0) 0 ∷ input_of 1 (replicate 1024 1) [] 0 ∷ input_of 2 [] (replicate 1024 0) 0 ∷ input_of 3 echo behind_echo 4096 ∷ input_of 4 echo behind_echo 0 ∷ [])) (replicate 5 1)
    ∷ gives (each (input_sound opened) (input_of 5 [] (replicate 1024 0) 0 ∷ input_of 1 (replicate 1025 1) [] 0 ∷ input_of 1 (1 ∷ []) (replicate 1022 0 ++ (1 ∷ [])) 0 ∷ input_of 1 (1 ∷ []) (replicate 1023 0) 1 ∷ input_of 3 (1 ∷ []) (replicate 1023 0) 1 ∷ input_of 3 echo behind_echo 4097 ∷ input_of 4 (1 ∷ []) (replicate 1023 0) 0 ∷ input_of 4 echo behind_echo 1 ∷ input_of 0 (0 ∷ []) (replicate 1023 0) 0 ∷ input_of 0 [] (replicate 1024 0) 1 ∷ input_of 2 (0 ∷ []) (replicate 1023 0) 0 ∷ input_of 2 [] (replicate 1024 0) 1 ∷ [])) (none 12)
    ∷ gives (each (input_sound not_open) (input_of 0 [] (replicate 1024 0) 0 ∷ input_of 1 [] (replicate 1024 0) 0 ∷ [])) (1 ∷ 0 ∷ [])
    -- the records whole, and with each part in turn broken
    ∷ gives (each sound (state_of numbers session (shelved (film ∷ [])) (queued (entry ∷ [])) opened (input_of 3 echo behind_echo 9) ∷ state_of numbers no_session (shelved []) (queued (entry ∷ [])) not_open (input_of 0 [] (replicate 1024 0) 0) ∷ [])) (1 ∷ 1 ∷ [])
    ∷ gives (each sound (state_of (numbers_of (chars "1.02") (replicate 36 0) 107 3) session (shelved []) (queued []) opened (input_of 0 [] (replicate 1024 0) 0) ∷ state_of numbers (session_of 2 (made_name 100) 1 0 0 0 [] (replicate 64 0)) (shelved []) (queued []) opened (input_of 0 [] (replicate 1024 0) 0) ∷ state_of numbers (session_of 1 (made_name 100) 0 0 0 0 [] (replicate 64 0)) (shelved []) (queued []) opened (input_of 0 [] (replicate 1024 0) 0) ∷ state_of numbers (session_of 0 no_name 1 0 0 0 [] (replicate 64 0)) (shelved []) (queued []) opened (input_of 0 [] (replicate 1024 0) 0) ∷ state_of numbers no_session (shelved (film ∷ [])) (queued []) opened (input_of 0 [] (replicate 1024 0) 0) ∷ state_of numbers session (shelved []) (queued (no_entry ∷ [])) opened (input_of 0 [] (replicate 1024 0) 0) ∷ state_of numbers session (shelved (made 100 102 ∷ [])) (queued []) opened (input_of 0 [] (replicate 1024 0) 0) ∷ state_of numbers session (shelved []) (queued []) (opened_of 1 2 1 4096) (input_of 0 [] (replicate 1024 0) 0) ∷ state_of numbers session (shelved []) (queued []) opened (input_of 5 [] (replicate 1024 0) 0) ∷ [])) (none 9)
    ∷ []

pub wholes_hold : AllHold wholes
unfolding the_book
wholes_hold = (refl, (refl, (refl, (refl, (refl, (refl, (refl, (refl, (refl, (refl, (refl, tt)))))))))))
