-- The records, rules 7.22 to 7.27, as one test. Unused places hold zeros, so that equal records have equal bytes.
use Rattle.std.specs.Prelude.{ℕ, ◌+◌, ◌%◌, Bool, true, false, List, [], ◌∷◌, ◌++◌, map, eqb, leb, ltb, length, get_or, take, drop}
use Rattle.choice.specs.Pick.{pick, both, not}
use Rattle.octets.specs.Octets.{same}
use Rattle.uids.specs.Uids.{is_uid, begins_with}
use Rattle.strike.specs.Machine.{command_limit}
use Rattle.rules.specs.declared.Picture.{Picture}
use Rattle.rules.specs.declared.Name.{Name}
use Rattle.rules.specs.declared.Session.{Session}
use Rattle.rules.specs.declared.ImageBox.{ImageBox}
use Rattle.rules.specs.declared.Layout.{Layout}
use Rattle.rules.specs.declared.Film.{Film}
use Rattle.rules.specs.declared.Shelf.{Shelf}
use Rattle.rules.specs.declared.Entry.{Entry}
use Rattle.rules.specs.declared.Queue.{Queue}
use Rattle.rules.specs.declared.Numbers.{Numbers}
use Rattle.rules.specs.declared.Opened.{Opened}
use Rattle.rules.specs.declared.Core.{Core}
use Rattle.rules.specs.declared.Input.{Input}
use Rattle.rules.specs.declared.State.{State}
use Rattle.rules.specs.declared.Command.{Command}
use Rattle.rules.specs.declared.Command.TheVariants.{Unreadable, Unknown, Known}
use Rattle.rules.specs.Bounds.{least_room, most_room, most_films, most_entries, root_limit, none_left}
use Rattle.rules.specs.Lists.{every, apart}
use Rattle.rules.specs.Values.{trimmed, label_allowed, kind_col}
use Rattle.rules.specs.Records.{root_of, box_count, boxes_of, films_of, entries_of, is_live, command_held, no_session, sessions_of}
use Rattle.rules.specs.Commands.{understood}

abbrev pub all : List Bool → Bool
all tests = every (λ (test : Bool). test) tests

abbrev pub between : ℕ → ℕ → ℕ → Bool
between low high n = both (leb low n) (leb n high)

abbrev pub zeros : List ℕ → Bool
zeros s = every (λ (b : ℕ). eqb b 0) s

abbrev pub flag : ℕ → Bool
flag n = leb n 1

-- "a sent one doesn't begin with root and a dot"; "serials .. held are below the next"
abbrev pub sent_sound : Numbers → Name → Bool
sent_sound n name =
    all (between 1 64 name.used
    ∷ is_uid (take name.used name.text)
    ∷ not (begins_with (root_of n) (take name.used name.text))
    ∷ zeros (drop name.used name.text)
    ∷ [])

abbrev pub made_sound : Numbers → Name → Bool
made_sound n name = all (ltb name.made.0 n.serial ∷ eqb name.used 0 ∷ zeros name.text ∷ [])

unfoldable pub name_sound : Numbers → Name → Bool
name_sound n name = pick (eqb name.made.0 0) (sent_sound n name) (made_sound n name)

abbrev pub name_blank : Name → Bool
name_blank name = all (eqb name.made.0 0 ∷ eqb name.used 0 ∷ zeros name.text ∷ [])

unfoldable pub numbers_sound : Numbers → Bool
numbers_sound n =
    all (between 1 root_limit n.used
    ∷ is_uid (root_of n)
    ∷ zeros (drop n.used n.root)
    ∷ between 1 none_left n.serial
    ∷ between 1 none_left n.picture
    ∷ [])

abbrev pub label_of : Session → List ℕ
label_of s = take s.used s.label

-- "fields hold allowed values"
abbrev pub session_sound : Numbers → Session → Bool
session_sound n s =
    all (name_sound n s.name
    ∷ between 1 99 s.copies
    ∷ leb s.priority 2
    ∷ leb s.medium 2
    ∷ leb s.destination 1
    ∷ leb s.used 64
    ∷ label_allowed (label_of s)
    ∷ same (trimmed (label_of s)) (label_of s)
    ∷ zeros (drop s.used s.label)
    ∷ [])

abbrev pub session_blank : Session → Bool
session_blank s =
    all (name_blank s.name
    ∷ zeros (s.copies ∷ s.priority ∷ s.medium ∷ s.destination ∷ s.used ∷ [])
    ∷ zeros s.label
    ∷ [])

-- a place is live or blank
abbrev pub session_place_sound : Numbers → Session → Bool
session_place_sound n s = both (flag s.live) (pick (is_live s) (session_sound n s) (session_blank s))

-- one of three formats; 1 to 6 lines of 1 to 6 boxes each
unfoldable pub layout_sound : Layout → Bool
layout_sound l =
    all (leb l.kind kind_col
    ∷ between 1 6 l.lines
    ∷ every (between 1 6) (take l.lines l.counts)
    ∷ zeros (drop l.lines l.counts)
    ∷ [])

abbrev pub box_sound : ℕ → Numbers → ImageBox → Bool
box_sound boxes n b = all (between 1 boxes b.position ∷ flag b.polarity ∷ ltb b.picture.0 n.picture ∷ [])

abbrev pub box_blank : ImageBox → Bool
box_blank b = zeros (b.position ∷ b.polarity ∷ b.picture.0 ∷ [])

-- "boxes of a film exactly C×R"
unfoldable pub film_sound : Numbers → Film → Bool
film_sound n f =
    all (name_sound n f.name
    ∷ layout_sound f.layout
    ∷ flag f.orientation
    ∷ leb f.magnification 3
    ∷ leb 1 f.first.0
    ∷ leb (f.first.0 + box_count f.layout) n.serial
    ∷ every (box_sound (box_count f.layout) n) (boxes_of f)
    ∷ every box_blank (drop (box_count f.layout) f.boxes)
    ∷ [])

abbrev pub film_blank : Film → Bool
film_blank f =
    all (name_blank f.name
    ∷ zeros (f.session ∷ f.layout.kind ∷ f.layout.lines ∷ f.orientation ∷ f.magnification ∷ f.first.0 ∷ [])
    ∷ zeros f.layout.counts
    ∷ every box_blank f.boxes
    ∷ [])

-- "films only under it": each film is of a session that is live
abbrev pub has_session : List Session → Film → Bool
has_session sessions f = is_live (get_or sessions f.session no_session)

unfoldable pub shelf_sound : Numbers → List Session → Shelf → Bool
shelf_sound n sessions shelf =
    all (leb shelf.count most_films
    ∷ every (has_session sessions) (films_of shelf)
    ∷ every (film_sound n) (films_of shelf)
    ∷ every film_blank (drop shelf.count shelf.films)
    ∷ [])

unfoldable pub entry_sound : Numbers → Entry → Bool
entry_sound n e =
    all (every (λ (p : Picture). ltb p.0 n.picture) e.pictures
    ∷ between 1 99 e.copies
    ∷ name_sound n e.film
    ∷ [])

abbrev pub entry_blank : Entry → Bool
entry_blank e =
    all (every (λ (p : Picture). eqb p.0 0) e.pictures ∷ zeros (e.ticket ∷ e.copies ∷ []) ∷ name_blank e.film ∷ [])

unfoldable pub queue_sound : Numbers → Queue → Bool
queue_sound n q =
    all (leb q.count most_entries
    ∷ every (entry_sound n) (entries_of q)
    ∷ every entry_blank (drop q.count q.entries)
    ∷ [])

-- "UIDs differ": made ones by their serials, sent ones by their characters.

pub record Serials : Type 0 where
  pub from : ℕ
  pub count : ℕ

abbrev pub overlap : Serials → Serials → Bool
overlap a b = both (ltb a.from (b.from + b.count)) (ltb b.from (a.from + a.count))

abbrev pub own_serial : Name → Serials
own_serial name = record { from = name.made.0; count = pick (eqb name.made.0 0) 0 1 }

unfoldable pub serials_of : List Film → List Serials
serials_of [] = []
serials_of (f ∷ films) = own_serial f.name ∷ record { from = f.first.0; count = box_count f.layout } ∷ serials_of films

abbrev pub sent_text : Name → List ℕ
sent_text name = take name.used name.text

-- two sent UIDs, which are never empty
abbrev pub same_text : List ℕ → List ℕ → Bool
same_text a b = both (not (eqb (length a) 0)) (same a b)

unfoldable pub uids_apart : List Session → List Film → Bool
uids_apart sessions films =
    both (apart overlap (map (λ (s : Session). own_serial s.name) sessions ++ serials_of films))
    (apart same_text (map (λ (s : Session). sent_text s.name) sessions ++ map (λ (f : Film). sent_text f.name) films))

-- What open fixed, and the input.

abbrev pub open_sound : Opened → Bool
open_sound o =
    all (eqb (o.context % 2) 1 ∷ leb o.context 255 ∷ between 1 2 o.syntax ∷ between least_room most_room o.room ∷ [])

unfoldable pub opened_sound : Opened → Bool
opened_sound o = both (flag o.live) (pick (eqb o.live 0) (zeros (o.context ∷ o.syntax ∷ o.room ∷ [])) (open_sound o))

unfoldable pub core_sound : Core → Bool
core_sound k =
    all (numbers_sound k.numbers
    ∷ every (session_place_sound k.numbers) (sessions_of k)
    ∷ shelf_sound k.numbers (sessions_of k) k.shelf
    ∷ queue_sound k.numbers k.queue
    ∷ uids_apart (sessions_of k) (films_of k.shelf)
    ∷ opened_sound k.opened
    ∷ [])

abbrev pub readable : Command → Bool
readable Unreadable = false
readable (Unknown message field) = true
readable (Known r) = true

-- idle 0, in command 1, skipping command 2, in data 3, skipping data 4; "in data or skipping data with a readable command"
abbrev pub phase_sound : ℕ → Input → Bool
phase_sound room i =
    pick (eqb i.phase 1) (eqb i.got 0)
    (pick (eqb i.phase 3) (both (readable (understood (command_held i))) (leb i.got room))
    (pick (eqb i.phase 4) (both (readable (understood (command_held i))) (eqb i.got 0))
    (zeros (i.used ∷ i.got ∷ []))))

-- "input fits its buffers"; there is none while not open
unfoldable pub input_sound : Opened → Input → Bool
input_sound o i =
    all (leb i.phase (pick (eqb o.live 0) 0 4)
    ∷ leb i.used command_limit
    ∷ zeros (drop i.used i.command)
    ∷ phase_sound o.room i
    ∷ [])

unfoldable pub sound : State → Bool
sound s = both (core_sound s.core) (input_sound s.core.opened s.input)
