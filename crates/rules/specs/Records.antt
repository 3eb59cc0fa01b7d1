-- The records: what they hold, by lists and names.
use Rattle.std.specs.Prelude.{ℕ, ◌+◌, Bool, List, map, eqb, length, get_or, take, replicate}
use Rattle.std.proofs.Math.Option.{Option, none, some}
use Rattle.choice.specs.Pick.{pick, both, not}
use Rattle.octets.specs.Octets.{same}
use Rattle.uids.specs.Uids.{made}
use Rattle.headers.specs.declared.Syntax.{Syntax}
use Rattle.headers.specs.Header.{syntax_of}
use Rattle.rules.specs.declared.Serial.{Serial}
use Rattle.rules.specs.declared.Picture.{Picture}
use Rattle.rules.specs.declared.Name.{Name}
use Rattle.rules.specs.declared.Session.{Session}
use Rattle.rules.specs.declared.ImageBox.{ImageBox}
use Rattle.rules.specs.declared.Layout.{Layout}
use Rattle.rules.specs.declared.Film.{Film}
use Rattle.rules.specs.declared.Shelf.{Shelf}
use Rattle.rules.specs.declared.Entry.{Entry}
use Rattle.rules.specs.declared.Queue.{Queue}
use Rattle.rules.specs.declared.Numbers.{Numbers}
use Rattle.rules.specs.declared.Opened.{Opened}
use Rattle.rules.specs.declared.Core.{Core}
use Rattle.rules.specs.declared.Input.{Input}
use Rattle.rules.specs.declared.Instance.{Instance}
use Rattle.rules.specs.declared.Instance.TheVariants.{Nobody, TheSession, TheFilm, TheBox}
use Rattle.rules.specs.Bounds.{most_sessions, most_films, most_boxes, most_entries}
use Rattle.rules.specs.Lists.{any, place_of, sum, from, up_to, those, filled_to}

-- Names.

abbrev pub serial : ℕ → Serial
serial n = record { 0 = n }

abbrev pub picture : ℕ → Picture
picture n = record { 0 = n }

abbrev pub no_name : Name
no_name = record { made = serial 0; used = 0; text = replicate 64 0 }

abbrev pub made_name : ℕ → Name
made_name n = record { made = serial n; used = 0; text = replicate 64 0 }

abbrev pub sent_name : List ℕ → Name
sent_name uid = record { made = serial 0; used = length uid; text = filled_to 64 0 uid }

unfoldable pub root_of : Numbers → List ℕ
root_of n = take n.used n.root

-- "the UID made is root, dot, serial"
unfoldable pub uid_of : Numbers → Name → List ℕ
uid_of n name = pick (eqb name.made.0 0) (take name.used name.text) (made (root_of n) name.made.0)

-- Films and boxes.

unfoldable pub box_count : Layout → ℕ
box_count layout = sum (take layout.lines layout.counts)

unfoldable pub boxes_of : Film → List ImageBox
boxes_of f = take (box_count f.layout) f.boxes

abbrev pub filled : ImageBox → Bool
filled b = not (eqb b.picture.0 0)

abbrev pub no_box : ImageBox
no_box = record { position = 0; polarity = 0; picture = picture 0 }

abbrev pub no_layout : Layout
no_layout = record { kind = 0; lines = 0; counts = replicate 6 0 }

abbrev pub no_film : Film
no_film = record {
  name = no_name;
  session = 0;
  layout = no_layout;
  orientation = 0;
  magnification = 0;
  first = serial 0;
  boxes = replicate most_boxes no_box;
}

unfoldable pub films_of : Shelf → List Film
films_of shelf = take shelf.count shelf.films

unfoldable pub shelved : List Film → Shelf
shelved films = record { count = length films; films = filled_to most_films no_film films }

-- The queue.

abbrev pub no_entry : Entry
no_entry = record { pictures = replicate most_boxes (picture 0); ticket = 0; copies = 0; film = no_name }

unfoldable pub entries_of : Queue → List Entry
entries_of queue = take queue.count queue.entries

unfoldable pub queued : List Entry → Queue
queued entries = record { count = length entries; entries = filled_to most_entries no_entry entries }

-- Sessions.

abbrev pub no_session : Session
no_session = record {
  live = 0;
  name = no_name;
  copies = 0;
  priority = 0;
  medium = 0;
  destination = 0;
  used = 0;
  label = replicate 64 0;
}

abbrev pub no_sessions : List Session
no_sessions = replicate most_sessions no_session

-- "Copies .. default 1; Priority .. MED; Medium .. PAPER; Destination .. MAGAZINE; Label .. empty"
abbrev pub new_session : Session
new_session = record {
  live = 1;
  name = no_name;
  copies = 1;
  priority = 1;
  medium = 0;
  destination = 0;
  used = 0;
  label = replicate 64 0;
}

abbrev pub is_live : Session → Bool
is_live s = not (eqb s.live 0)

-- by place; where there is none, a blank one
abbrev pub session_at : Core → ℕ → Session
session_at k i = get_or k.sessions i no_session

-- those of all places, blank ones too
abbrev pub sessions_of : Core → List Session
sessions_of k = up_to most_sessions (session_at k)

-- the only place, as long as there is one
abbrev pub the_session : Core → Session
the_session k = session_at k 0

-- whether a film is of the session at a place
abbrev pub under : ℕ → Film → Bool
under i f = eqb f.session i

-- the films of the session at a place, in creation order
unfoldable pub films_under : ℕ → Shelf → List Film
films_under i shelf = those (under i) (films_of shelf)

-- What open fixed.

abbrev pub not_open : Opened
not_open = record { live = 0; context = 0; syntax = 0; room = 0 }

abbrev pub is_open : Core → Bool
is_open k = not (eqb k.opened.live 0)

abbrev pub syntax_in : Core → Syntax
syntax_in k = syntax_of k.opened.syntax

-- The command half collected.

abbrev pub command_held : Input → List ℕ
command_held i = take i.used i.command

-- The core with one part anew.

abbrev pub with_numbers : Numbers → Core → Core
with_numbers n k = record { numbers = n; sessions = k.sessions; shelf = k.shelf; queue = k.queue; opened = k.opened }

abbrev pub with_sessions : List Session → Core → Core
with_sessions sessions k = record { numbers = k.numbers; sessions = sessions; shelf = k.shelf; queue = k.queue; opened = k.opened }

-- with this session at a place
abbrev pub with_session : ℕ → Session → Core → Core
with_session i s k = with_sessions (up_to most_sessions (λ j. pick (eqb j i) s (session_at k j))) k

abbrev pub with_films : List Film → Core → Core
with_films films k = record { numbers = k.numbers; sessions = k.sessions; shelf = shelved films; queue = k.queue; opened = k.opened }

abbrev pub with_queue : List Entry → Core → Core
with_queue entries k = record { numbers = k.numbers; sessions = k.sessions; shelf = k.shelf; queue = queued entries; opened = k.opened }

-- Next numbers.

abbrev pub serials_used : ℕ → Numbers → Numbers
serials_used n k = record { used = k.used; root = k.root; serial = k.serial + n; picture = k.picture; ticket = k.ticket }

abbrev pub picture_used : Numbers → Numbers
picture_used k = record { used = k.used; root = k.root; serial = k.serial; picture = k.picture + 1; ticket = k.ticket }

-- the instance that a response names; no name is none
abbrev pub instance_of : Numbers → Name → Option (List ℕ)
instance_of n name = pick (both (eqb name.made.0 0) (eqb name.used 0)) none (some (uid_of n name))

-- Which instance a UID names.

-- so many made UIDs, from a serial on
abbrev pub uids_from : Numbers → ℕ → ℕ → List (List ℕ)
uids_from n first count = map (made (root_of n)) (from first count)

-- the UIDs of a film's boxes, in order
unfoldable pub box_uids : Numbers → Film → List (List ℕ)
box_uids n f = uids_from n f.first.0 (box_count f.layout)

abbrev pub session_named : Numbers → List ℕ → Session → Bool
session_named n uid s = both (is_live s) (same uid (uid_of n s.name))

abbrev pub film_named : Numbers → List ℕ → Film → Bool
film_named n uid f = same uid (uid_of n f.name)

abbrev pub box_named : Numbers → List ℕ → Film → Bool
box_named n uid f = any (same uid) (box_uids n f)

abbrev pub box_of : Numbers → List ℕ → List Film → ℕ → Instance
box_of n uid films i = TheBox i (place_of (same uid) (box_uids n (get_or films i no_film)))

unfoldable pub named : Core → List ℕ → Instance
named k uid =
    pick (session_named k.numbers uid (the_session k)) TheSession
    (pick (any (film_named k.numbers uid) (films_of k.shelf)) (TheFilm (place_of (film_named k.numbers uid) (films_of k.shelf)))
    (pick (any (box_named k.numbers uid) (films_of k.shelf)) (box_of k.numbers uid (films_of k.shelf) (place_of (box_named k.numbers uid) (films_of k.shelf)))
    Nobody))
