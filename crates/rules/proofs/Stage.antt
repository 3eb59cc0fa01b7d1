-- What the worked examples are built of: records as they stand, and what a request gives.
-- Assumes nothing.
use mathlib.Core.Path.{◌≡◌}
use mathlib.Core.List.{List, [], ◌∷◌, ◌++◌, map}
use Prim.Native.Nat.{ℕ, ◌+◌, ◌*◌, ◌-◌}
use Prim.Native.String.{String}
use lib.Dec.{ltb}
use lib.ListN.{length, replicate}
use Rattle.choice.specs.Pick.{pick}
use Rattle.choice.specs.Rules.{first_broken}
use Rattle.headers.specs.declared.Syntax.TheVariants.{Implicit}
use Rattle.strike.specs.Service.{Result, fails, does}
use Rattle.rules.specs.declared.Name.{Name}
use Rattle.rules.specs.declared.Picture.{Picture}
use Rattle.rules.specs.declared.Entry.{Entry}
use Rattle.rules.specs.declared.Core.{Core}
use Rattle.rules.specs.declared.ImageBox.{ImageBox}
use Rattle.rules.specs.declared.Film.{Film}
use Rattle.rules.specs.declared.Session.{Session}
use Rattle.rules.specs.Text.{chars}
use Rattle.rules.specs.Lists.{filled_to}
use Rattle.rules.specs.Values.{kind_standard}
use Rattle.rules.specs.Records.{no_name, serial, made_name, sent_name, shelved, queued, no_sessions, new_session, no_box, no_entry, with_films, with_queue}
use Rattle.rules.specs.Attributes.{Listing, listing_of, Standing, attribute_rules, layout_from}
use Rattle.rules.specs.Responses.{Reply}
use Rattle.rules.specs.Effects.{new_box, renamed, with_boxes}

-- bytes, as two hexadecimal digits each
abbrev digit : ℕ → ℕ
digit c = pick (ltb c 58) (c - 48) (c - 87)

abbrev paired : List ℕ → List ℕ
paired [] = []
paired (a ∷ []) = []
paired (a ∷ (b ∷ s)) = (16 * digit a + digit b) ∷ paired s

abbrev pub hex : String → List ℕ
hex text = paired (chars text)

-- an element in implicit VR: its tag as it stands in bytes, and its value, of fewer than 256 bytes
abbrev pub element : String → List ℕ → List ℕ
element tag value = hex tag ++ (length value ∷ 0 ∷ 0 ∷ 0 ∷ value)

abbrev pub text : String → String → List ℕ
text tag value = element tag (chars value)

abbrev pub joined : List (List ℕ) → List ℕ
joined [] = []
joined (e ∷ es) = e ++ joined es

-- the bytes of a taken entry: "36 pictures of 4, ticket and copies of 2, .. the UID zero-filled to 64"
abbrev pub entry_said : ℕ
entry_said = 36 * 4 + 2 + 2 + 64

abbrev pub implicit : List ℕ → Listing
implicit d = listing_of d Implicit

-- check 8's status for attributes that stand so, 0 where it lets them pass
abbrev pub judged : List Standing → ℕ
judged standings = first_broken (attribute_rules standings)

-- a session of values that no data set gives
abbrev pub some_session : Session
some_session = record { live = 1; name = no_name; copies = 50; priority = 51; medium = 52; destination = 53; used = 2; label = 54 ∷ 55 ∷ replicate 62 0 }

-- records after a start with root 1.9.7 and an open, in implicit VR
abbrev pub nothing_live : Core
nothing_live = record {
  numbers = record { used = 5; root = filled_to 40 0 (chars "1.9.7"); serial = 100; picture = 1; ticket = 0 };
  sessions = no_sessions;
  shelf = shelved [];
  queue = queued [];
  opened = record { live = 1; context = 1; syntax = 1; room = 4096 };
}

-- the same with session 1.2.3
abbrev pub session_live : Core
session_live = record {
  numbers = nothing_live.numbers;
  sessions = renamed (sent_name (chars "1.2.3")) new_session ∷ [];
  shelf = shelved [];
  queue = queued [];
  opened = nothing_live.opened;
}

-- and film 1.9.7.100 of STANDARD\2,3, with empty boxes
abbrev pub the_film : Film
the_film = record {
  name = made_name 100;
  session = 0;
  layout = layout_from kind_standard (2 ∷ 2 ∷ 2 ∷ []);
  orientation = 0;
  magnification = 2;
  first = serial 101;
  boxes = filled_to 36 no_box (map new_box (1 ∷ 2 ∷ 3 ∷ 4 ∷ 5 ∷ 6 ∷ []));
}

abbrev pub film_live : Core
film_live = record {
  numbers = record { used = 5; root = filled_to 40 0 (chars "1.9.7"); serial = 107; picture = 1; ticket = 0 };
  sessions = session_live.sessions;
  shelf = shelved (the_film ∷ []);
  queue = queued [];
  opened = nothing_live.opened;
}

-- more records: eight films; serials and pictures that run out; a full queue; boxes filled
abbrev pub with_numbers_of : ℕ → ℕ → Core → Core
with_numbers_of serial picture k = record {
  numbers = record { used = k.numbers.used; root = k.numbers.root; serial = serial; picture = picture; ticket = k.numbers.ticket };
  sessions = k.sessions;
  shelf = k.shelf;
  queue = k.queue;
  opened = k.opened;
}

abbrev pub eight_films : Core
eight_films = with_films (replicate 8 the_film) film_live

-- six serials are left, and seven are asked for
abbrev pub few_serials : Core
few_serials = with_numbers_of 4294967290 1 session_live

abbrev pub no_pictures : Core
no_pictures = with_numbers_of 107 4294967296 film_live

abbrev pub queue_full : Core
queue_full = with_queue (replicate 16 no_entry) film_live

abbrev pub entry_of : List Picture → ℕ → ℕ → Name → Entry
entry_of pictures ticket copies film = record { pictures = pictures; ticket = ticket; copies = copies; film = film }

abbrev pub filled_box : ℕ → ℕ → ImageBox
filled_box position n = record { position = position; polarity = 0; picture = record { 0 = n } }

abbrev pub boxes_then : List ImageBox → Core
boxes_then boxes = with_numbers_of 107 3 (with_films (with_boxes (filled_to 36 no_box boxes) the_film ∷ []) film_live)

-- box 2 holds picture 1 at position 2
abbrev pub one_picture : Core
one_picture = boxes_then (new_box 1 ∷ filled_box 2 1 ∷ new_box 3 ∷ new_box 4 ∷ new_box 5 ∷ new_box 6 ∷ [])

-- boxes 2 and 3 hold pictures at position 2
abbrev pub collided : Core
collided = boxes_then (new_box 1 ∷ filled_box 2 1 ∷ filled_box 2 2 ∷ new_box 4 ∷ new_box 5 ∷ new_box 6 ∷ [])

abbrev pub status : Result Core Reply → ℕ
status (fails r) = r.status
status (does k r) = r.status

abbrev pub response : Result Core Reply → List ℕ
response (fails r) = r.command
response (does k r) = r.command

abbrev pub response_data : Result Core Reply → List ℕ
response_data (fails r) = r.data_set
response_data (does k r) = r.data_set

abbrev pub after : Core → Result Core Reply → Core
after k (fails r) = k
after k (does done r) = done

-- an example: what the book gives, and what the rules say
pub data Example : Type 0 where
  gives : List ℕ → List ℕ → Example

abbrev pub AllHold : List Example → Type 0
AllHold [] = Unit {0}
AllHold (gives got said ∷ more) = (got ≡ said) × AllHold more
