-- A call refused, and what the calls do (chapter 3 of the rules): the service that collecting is over.
use Rattle.std.specs.Prelude.{ℕ, ◌%◌, Bool, List, [], ◌∷◌, ◌++◌, eqb, leb, ltb, length, get_or, drop}
use Rattle.choice.specs.Pick.{pick, both, either, not}
use Rattle.choice.specs.Rules.{Rule, ◌⇒◌, first_or}
use Rattle.octets.specs.Octets.{octets}
use Rattle.uids.specs.Uids.{is_uid}
use Rattle.strike.specs.declared.Reading.{Reading}
use Rattle.strike.specs.declared.Reading.TheVariants.{NotReadable, Alone, WithData}
use Rattle.strike.specs.Service.{Handed, Call, start, opening, feed, close, aside, Check, passes, refuses, Service}
use Rattle.rules.specs.declared.Picture.{Picture}
use Rattle.rules.specs.declared.Entry.{Entry}
use Rattle.rules.specs.declared.Numbers.{Numbers}
use Rattle.rules.specs.declared.Opened.{Opened}
use Rattle.rules.specs.declared.Core.{Core}
use Rattle.rules.specs.declared.Command.{Command}
use Rattle.rules.specs.declared.Command.TheVariants.{Unreadable, Unknown, Known}
use Rattle.rules.specs.Bounds.{least_room, most_room, command_room, data_room, report_room, entry_room, root_limit, none_left}
use Rattle.rules.specs.Lists.{filled_to}
use Rattle.rules.specs.Records.{uid_of, no_entry, entries_of, shelved, queued, no_sessions, not_open, is_open, with_sessions, with_films, with_queue}
use Rattle.rules.specs.Commands.{understood, has_data}
use Rattle.rules.specs.Responses.{Reply}
use Rattle.rules.specs.Checks.{decide}

-- What is handed over with each call beside the records and a fragment: arguments, and the lengths of lent buffers.

pub record Starting : Type 0 where
  pub root : List ℕ
  pub serial : ℕ
  pub picture : ℕ

pub record Opening : Type 0 where
  pub context : ℕ
  pub syntax : ℕ
  pub message : ℕ

pub record Lengths : Type 0 where
  pub message : ℕ
  pub command : ℕ
  pub data_set : ℕ
  pub report : ℕ

-- the calls outside messages: take, with the length of the buffer for the entry
pub data Aside : Type 0 where
  taking : ℕ → Aside

abbrev pub handed : Handed
handed = record { Start = Starting; Opening = Opening; Feed = Lengths; Aside = Aside }

-- Line 2: "the message buffer is out of limits or, while open, of another length".

abbrev pub message_wrong : Core → ℕ → Bool
message_wrong k room =
    either (either (ltb room least_room) (ltb most_room room))
    (both (is_open k) (not (eqb room k.opened.room)))

-- Line 3: a bad argument.

abbrev pub bad_root : List ℕ → Bool
bad_root root = either (not (is_uid root)) (ltb root_limit (length root))

abbrev pub bad_number : ℕ → Bool
bad_number n = either (eqb n 0) (leb none_left n)

-- "Open needs an odd context number, 1 to 255, and one of two syntaxes."
abbrev pub bad_context : ℕ → Bool
bad_context n = either (eqb (n % 2) 0) (ltb 255 n)

abbrev pub bad_syntax : ℕ → Bool
bad_syntax n = not (either (eqb n 1) (eqb n 2))

-- The lines of each call, in the table's order; lines 1 and 2 for the records themselves stand before them (Outcomes).

abbrev pub start_rules : Starting → List Rule
start_rules h =
    (bad_root h.root ⇒ 3)
    ∷ (either (bad_number h.serial) (bad_number h.picture) ⇒ 3)
    ∷ []

abbrev pub open_rules : Core → Opening → List Rule
open_rules k h =
    (message_wrong k h.message ⇒ 2)
    ∷ (either (bad_context h.context) (bad_syntax h.syntax) ⇒ 3)
    ∷ (is_open k ⇒ 3)
    ∷ []

abbrev pub feed_rules : Core → Lengths → List Rule
feed_rules k h =
    (message_wrong k h.message ⇒ 2)
    ∷ (ltb h.command command_room ⇒ 2)
    ∷ (ltb h.data_set data_room ⇒ 2)
    ∷ (ltb h.report report_room ⇒ 2)
    ∷ (not (is_open k) ⇒ 4)
    ∷ []

abbrev pub close_rules : Core → List Rule
close_rules k = (not (is_open k) ⇒ 4) ∷ []

abbrev pub take_rules : Core → ℕ → List Rule
take_rules k entry =
    (ltb entry entry_room ⇒ 2)
    ∷ (eqb (length (entries_of k.queue)) 0 ⇒ 6)
    ∷ []

abbrev pub rules_of : Core → Call handed → List Rule
rules_of k (start h) = start_rules h
rules_of k (opening h) = open_rules k h
rules_of k (feed bytes h) = feed_rules k h
rules_of k close = close_rules k
rules_of k (aside (taking entry)) = take_rules k entry

unfoldable pub check : Core → Call handed → Check
check k c = first_or refuses (rules_of k c) passes

-- What the calls do.

-- "Start makes fresh records, not open."; "the first [ticket] after start is 0"
unfoldable pub started : Starting → Core
started h = record {
  numbers = record { used = length h.root; root = filled_to root_limit 0 h.root; serial = h.serial; picture = h.picture; ticket = 0 };
  sessions = no_sessions;
  shelf = shelved [];
  queue = queued [];
  opened = not_open;
}

abbrev pub with_opened : Opened → Core → Core
with_opened o k = record { numbers = k.numbers; sessions = k.sessions; shelf = k.shelf; queue = k.queue; opened = o }

unfoldable pub opened : Core → Opening → Core
opened k h = with_opened (record { live = 1; context = h.context; syntax = h.syntax; room = h.message }) k

-- "Close drops session, films, boxes and input; queue and next numbers stay."
unfoldable pub closed : Core → Core
closed k = with_opened not_open (with_sessions no_sessions (with_films [] k))

-- "Take writes the oldest entry in 212 bytes: 36 pictures of 4, ticket and copies of 2, little endian, the UID zero-filled to 64."
unfoldable pub picture_bytes : List Picture → List ℕ
picture_bytes [] = []
picture_bytes (p ∷ ps) = octets 4 p.0 ++ picture_bytes ps

unfoldable pub entry_bytes : Numbers → Entry → List ℕ
entry_bytes n e = picture_bytes e.pictures ++ (octets 2 e.ticket ++ (octets 2 e.copies ++ filled_to 64 0 (uid_of n e.film)))

-- "Room of taken entries is used again."
unfoldable pub taken : Core → Core × List ℕ
taken k = (with_queue (drop 1 (entries_of k.queue)) k, entry_bytes k.numbers (get_or (entries_of k.queue) 0 no_entry))

abbrev pub asked : Core → Aside → Core × List ℕ
asked k (taking entry) = taken k

-- "an unreadable command is dropped"; "Without data set (type 0101H) the request is done at once"
abbrev pub reading_of : Bool → Command → Reading
reading_of withSet Unreadable = NotReadable
reading_of withSet (Unknown message field) = pick withSet WithData Alone
reading_of withSet (Known r) = pick withSet WithData Alone

unfoldable pub reading : List ℕ → Reading
reading c = reading_of (has_data c) (understood c)

-- printing, as the service that collecting is over
abbrev pub printing : Service
printing = record {
  Core = Core;
  handed = handed;
  Response = Reply;
  Told = List ℕ;
  check = check;
  started = started;
  opened = opened;
  closed = closed;
  asked = asked;
  context = λ (k : Core). k.opened.context;
  room = λ (k : Core). k.opened.room;
  reading = reading;
  request = decide;
}
