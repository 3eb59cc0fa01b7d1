-- Both sides of each bound of the rules (docs/RULES.md), computed.
-- Assumes nothing.
use mathlib.Core.Path.{refl}
use mathlib.Core.List.{List, [], ◌∷◌, ◌++◌, map}
use Prim.Native.Nat.{ℕ, ◌-◌}
use Prim.Native.String.{String}
use lib.ListN.{length, replicate}
use Rattle.choice.specs.Pick.{pick}
use Rattle.choice.specs.Rules.{first_broken}
use Rattle.strike.specs.Service as service
use Rattle.strike.specs.Service.{Check, passes, refuses, start, feed, aside}
use Rattle.rules.specs.declared.Core.{Core}
use Rattle.rules.specs.Text.{chars}
use Rattle.rules.specs.Values.{counts_in}
use Rattle.rules.specs.Records.{no_entry, not_open, with_films, with_queue}
use Rattle.rules.specs.Commands.{well_formed}
use Rattle.rules.specs.Attributes.{session_standings, session_with, box_standings}
use Rattle.rules.specs.Effects.{next_ticket}
use Rattle.rules.specs.Checks.{new_session_rules, new_film_rules, box_rules, session_print_rules, film_print_rules}
use Rattle.rules.specs.Calls.{taking, with_opened, check}
use Rattle.rules.proofs.Book.{the_book}
use Rattle.rules.proofs.Messages.{film23, picture}
use Rattle.rules.proofs.Stage.{hex, element, text, entry_said, implicit, judged, nothing_live, session_live, film_live, the_film, with_numbers_of, some_session, Example, gives, AllHold}

-- Values.

abbrev copies : String → List ℕ
copies value = (session_with (implicit (text "00201000" value)) some_session).copies ∷ judged (session_standings (implicit (text "00201000" value))) ∷ []

abbrev label : List ℕ → ℕ
label value = judged (session_standings (implicit (element "00205000" value)))

-- a label of two characters
abbrev label_with : ℕ → ℕ
label_with c = label (c ∷ 65 ∷ [])

abbrev position : List ℕ → ℕ
position value = judged (box_standings 6 (implicit (element "20201000" value)))

abbrev lines : String → ℕ
lines format = length (counts_in (chars format))

abbrev each_text : (String → List ℕ) → List String → List ℕ
each_text f [] = []
each_text f (t ∷ ts) = f t ++ each_text f ts

abbrev values : List Example
values =
    -- "Copies (2000,0010) IS 1 to 99"
    gives (each_text copies ("1 " ∷ "99" ∷ "0 " ∷ "100 " ∷ "  " ∷ [])) (1 ∷ 0 ∷ 99 ∷ 0 ∷ 0 ∷ 0x0106 ∷ 0 ∷ 0x0106 ∷ 50 ∷ 0 ∷ [])
    -- IS: a plus, a minus, no digits, a letter and the characters about the digits, two values; twelve characters, with spaces before them or not, and thirteen
    ∷ gives (each_text copies ("+5" ∷ "-5" ∷ "+ " ∷ "5A" ∷ "/5" ∷ ":5" ∷ "5\\6 " ∷ "000000000005" ∷ "  000000000005" ∷ "0000000000005 " ∷ [])) (5 ∷ 0 ∷ 0 ∷ 0x0106 ∷ 0 ∷ 0x0106 ∷ 0 ∷ 0x0106 ∷ 0 ∷ 0x0106 ∷ 0 ∷ 0x0106 ∷ 0 ∷ 0x0106 ∷ 5 ∷ 0 ∷ 5 ∷ 0 ∷ 0 ∷ 0x0106 ∷ [])
    -- "Label (2000,0050) LO to 64", with spaces about them or not
    ∷ gives (label (replicate 64 97) ∷ label ((32 ∷ replicate 64 97) ++ (32 ∷ [])) ∷ label (replicate 66 97) ∷ label (replicate 65 97 ++ (32 ∷ [])) ∷ []) (0 ∷ 0 ∷ 0x0106 ∷ 0x0106 ∷ [])
    -- "Label has bytes 20H to 7EH without backslash"
    ∷ gives (map label_with (0x1F ∷ 0x20 ∷ 0x21 ∷ 0x5B ∷ 0x5C ∷ 0x5D ∷ 0x7E ∷ 0x7F ∷ 0xFF ∷ [])) (0x0106 ∷ 0 ∷ 0 ∷ 0 ∷ 0x0106 ∷ 0 ∷ 0 ∷ 0x0106 ∷ 0x0106 ∷ [])
    -- "Position (2020,0010) US, mandatory in N-SET, 1 to C×R"
    ∷ gives (position (0 ∷ 0 ∷ []) ∷ position (1 ∷ 0 ∷ []) ∷ position (6 ∷ 0 ∷ []) ∷ position (7 ∷ 0 ∷ []) ∷ position (1 ∷ 1 ∷ []) ∷ position (32 ∷ 32 ∷ []) ∷ position [] ∷ position (1 ∷ 0 ∷ 0 ∷ 0 ∷ []) ∷ judged (box_standings 6 (implicit [])) ∷ []) (0x0106 ∷ 0 ∷ 0 ∷ 0x0106 ∷ 0x0106 ∷ 0x0106 ∷ 0x0121 ∷ 0x0106 ∷ 0x0120 ∷ [])
    -- "C and R 1 to 6 without leading zero"; trailing spaces alone don't count
    ∷ gives (map lines ("STANDARD\\1,1" ∷ "STANDARD\\6,6  " ∷ "STANDARD\\0,1" ∷ "STANDARD\\7,1" ∷ "STANDARD\\1,0" ∷ "STANDARD\\1,7" ∷ "STANDARD\\01,1" ∷ "STANDARD\\1,01" ∷ "STANDARD\\1;1" ∷ "STANDARD/1,1" ∷ " STANDARD\\1,1" ∷ "SLIDE\\1,1" ∷ [])) (1 ∷ 6 ∷ 0 ∷ 0 ∷ 0 ∷ 0 ∷ 0 ∷ 0 ∷ 0 ∷ 0 ∷ 0 ∷ 0 ∷ [])
    ∷ gives (map lines ("ROW\\1" ∷ "COL\\6" ∷ "ROW\\0" ∷ "COL\\7" ∷ "ROW\\1,1,1,1,1,1" ∷ "ROW\\1,1,1,1,1,1,1" ∷ "ROW\\1,2  " ∷ "ROW\\1;1" ∷ "ROW\\1,7" ∷ "ROW\\" ∷ "ROW 1" ∷ [])) (1 ∷ 1 ∷ 0 ∷ 0 ∷ 6 ∷ 0 ∷ 2 ∷ 0 ∷ 0 ∷ 0 ∷ 0 ∷ [])
    ∷ []

pub values_hold : AllHold values
unfolding the_book
values_hold = (refl, (refl, (refl, (refl, (refl, (refl, (refl, tt)))))))

-- Numbers and room: checks 9 and 10.

abbrev films_on_shelf : ℕ → Core
films_on_shelf n = with_films (replicate n the_film) session_live

-- the rules of a session or film created by a UID that was sent, or by none
abbrev session_at : ℕ → List ℕ → ℕ
session_at serial sent = first_broken (new_session_rules (with_numbers_of serial 1 nothing_live) sent (implicit []))

abbrev film_at : ℕ → List ℕ → ℕ
film_at serial sent = first_broken (new_film_rules (with_numbers_of serial 1 session_live) sent (implicit film23))

abbrev picture_at : ℕ → ℕ
picture_at next = first_broken (box_rules (with_numbers_of 107 next film_live) 0 (implicit picture))

abbrev queued_before : ℕ → Core → Core
queued_before n k = with_queue (replicate n no_entry) k

abbrev rooms : List Example
rooms =
    -- "8 films"
    gives (first_broken (new_film_rules (films_on_shelf 7) [] (implicit film23)) ∷ first_broken (new_film_rules (films_on_shelf 8) [] (implicit film23)) ∷ []) (0 ∷ 0x0213 ∷ [])
    -- "When the last is used, no number is left": one serial for a session, seven for a film of six boxes, one less by a sent UID
    ∷ gives (session_at 4294967295 [] ∷ session_at 4294967296 [] ∷ session_at 4294967296 (chars "1.2.3") ∷ []) (0 ∷ 0x0213 ∷ 0 ∷ [])
    ∷ gives (film_at 4294967289 [] ∷ film_at 4294967290 [] ∷ film_at 4294967290 (chars "1.2.3") ∷ film_at 4294967291 (chars "1.2.3") ∷ []) (0 ∷ 0x0213 ∷ 0 ∷ 0x0213 ∷ [])
    ∷ gives (picture_at 4294967295 ∷ picture_at 4294967296 ∷ []) (0 ∷ 0x0213 ∷ [])
    -- "16 queue entries"
    ∷ gives (first_broken (film_print_rules (queued_before 15 film_live) 0) ∷ first_broken (film_print_rules (queued_before 16 film_live) 0) ∷ []) (0 ∷ 0xC602 ∷ [])
    ∷ gives (first_broken (session_print_rules (queued_before 14 (films_on_shelf 2)) 0) ∷ first_broken (session_print_rules (queued_before 15 (films_on_shelf 2)) 0) ∷ first_broken (session_print_rules (queued_before 16 session_live) 0) ∷ []) (0 ∷ 0xC601 ∷ 0xC600 ∷ [])
    -- "A ticket has 16 bits, and after 65,535 comes 0"
    ∷ gives (next_ticket 0 ∷ next_ticket 65534 ∷ next_ticket 65535 ∷ []) (1 ∷ 65535 ∷ 0 ∷ [])
    ∷ []

pub rooms_hold : AllHold rooms
unfolding the_book
rooms_hold = (refl, (refl, (refl, (refl, (refl, (refl, (refl, tt)))))))

-- Requests: a command with nothing but a field, number 9 and no data set.

abbrev command : String → ℕ
command field = pick (well_formed (hex "00000000040000001e000000" ++ (element "00000001" (hex field) ++ hex "0000100102000000090000000008020000000101"))) 1 0

abbrev requests : List Example
requests =
    -- "Field 8000H and above: unreadable"
    gives (command "ff7f" ∷ command "0080" ∷ []) (1 ∷ 0 ∷ [])
    ∷ []

pub requests_hold : AllHold requests
unfolding the_book
requests_hold = (refl, tt)

-- Calls: arguments and lent buffers.

abbrev check_number : Check → ℕ
check_number passes = 0
check_number (refuses n) = n

abbrev shut : Core
shut = with_opened not_open nothing_live

abbrev starts_with : List ℕ → ℕ → ℕ → ℕ
starts_with root serial picture = check_number (check shut (start (record { root = root; serial = serial; picture = picture })))

abbrev opens_with : Core → ℕ → ℕ → ℕ → ℕ
opens_with k context syntax message = check_number (check k (service.opening (record { context = context; syntax = syntax; message = message })))

abbrev feeds_with : Core → ℕ → ℕ → ℕ → ℕ → ℕ
feeds_with k message command data_set report = check_number (check k (feed [] (record { message = message; command = command; data_set = data_set; report = report })))

abbrev takes_with : Core → ℕ → ℕ
takes_with k entry = check_number (check k (aside (taking entry)))

abbrev lent : List Example
lent =
    -- "root at most 40"; "Serials and picture numbers 1 to 4,294,967,295"
    gives (starts_with (replicate 40 49) 1 1 ∷ starts_with (replicate 41 49) 1 1 ∷ starts_with [] 1 1 ∷ starts_with (chars "1.02") 1 1 ∷ []) (0 ∷ 3 ∷ 3 ∷ 3 ∷ [])
    ∷ gives (starts_with (chars "1.9.7") 4294967295 4294967295 ∷ starts_with (chars "1.9.7") 4294967296 1 ∷ starts_with (chars "1.9.7") 1 4294967296 ∷ starts_with (chars "1.9.7") 0 1 ∷ starts_with (chars "1.9.7") 1 0 ∷ []) (0 ∷ 3 ∷ 3 ∷ 3 ∷ 3 ∷ [])
    -- "an odd context number, 1 to 255, and one of two syntaxes"
    ∷ gives (opens_with shut 0 1 4096 ∷ opens_with shut 1 1 4096 ∷ opens_with shut 2 1 4096 ∷ opens_with shut 254 1 4096 ∷ opens_with shut 255 1 4096 ∷ opens_with shut 256 1 4096 ∷ opens_with shut 257 1 4096 ∷ []) (3 ∷ 0 ∷ 3 ∷ 3 ∷ 0 ∷ 3 ∷ 3 ∷ [])
    ∷ gives (opens_with shut 1 0 4096 ∷ opens_with shut 1 2 4096 ∷ opens_with shut 1 3 4096 ∷ []) (3 ∷ 0 ∷ 3 ∷ [])
    -- "Message buffer 4,096 to 16,777,216 bytes", before the arguments; while open, of another length
    ∷ gives (opens_with shut 0 1 4095 ∷ opens_with shut 1 1 16777216 ∷ opens_with shut 0 1 16777217 ∷ opens_with nothing_live 0 1 4097 ∷ opens_with nothing_live 1 1 4096 ∷ []) (2 ∷ 0 ∷ 2 ∷ 2 ∷ 3 ∷ [])
    -- "Answer buffers: 256 bytes for a command, 8,192 for a data set", 20 for a report, before line 4
    ∷ gives (feeds_with nothing_live 4096 256 8192 20 ∷ feeds_with shut 4096 256 8192 20 ∷ feeds_with shut 4095 256 8192 20 ∷ feeds_with shut 16777217 256 8192 20 ∷ feeds_with shut 4096 255 8192 20 ∷ feeds_with shut 4096 256 8191 20 ∷ feeds_with shut 4096 256 8192 19 ∷ []) (0 ∷ 4 ∷ 2 ∷ 2 ∷ 2 ∷ 2 ∷ 2 ∷ [])
    -- a taken entry, before line 6
    ∷ gives (takes_with (queued_before 1 shut) entry_said ∷ takes_with (queued_before 1 shut) (entry_said - 1) ∷ takes_with shut (entry_said - 1) ∷ takes_with shut entry_said ∷ []) (0 ∷ 2 ∷ 2 ∷ 6 ∷ [])
    ∷ []

pub lent_hold : AllHold lent
unfolding the_book
lent_hold = (refl, (refl, (refl, (refl, (refl, (refl, (refl, tt)))))))
