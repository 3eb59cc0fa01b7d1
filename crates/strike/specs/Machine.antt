-- Chapters 3 and 4 of the rules (docs/RULES.md): one call, over any service.
use Rattle.std.specs.Prelude.{Bool, List, [], ◌++◌, ℕ, ◌+◌, ◌/◌, ◌%◌, eqb, leb, ltb, length, get_or, drop}
use Rattle.std.proofs.Math.Option.{Option, none, some}
use Rattle.choice.specs.Pick.{pick, either, not}
use Rattle.octets.specs.Octets.{big_number_at, laid}
use Rattle.strike.specs.declared.Reading.{Reading}
use Rattle.strike.specs.declared.Reading.TheVariants.{NotReadable, Alone, WithData}
use Rattle.strike.specs.Service.{DataSet, no_data, whole, too_long, Result, fails, does}
use Rattle.strike.specs.Service.{Call, start, opening, feed, close, aside, Check, passes, refuses, Service}

-- a fragment: of a command or a data set, the last one or not, and its bytes
pub data Fragment : Type 0 where
  command dataset : Bool → List ℕ → Fragment

-- a header: n, the context byte, the control byte
abbrev pub length_told : List ℕ → ℕ
length_told bytes = big_number_at 4 bytes 0

abbrev pub context_byte : List ℕ → ℕ
context_byte bytes = get_or bytes 4 0

abbrev pub control_byte : List ℕ → ℕ
control_byte bytes = get_or bytes 5 0

unfoldable pub header_wrong : ℕ → List ℕ → Bool
header_wrong context bytes =
    either (ltb (length bytes) 6)
    (either (ltb (length_told bytes) 2)
    (either (not (eqb (length_told bytes + 4) (length bytes)))
    (either (not (eqb (context_byte bytes) context)) (not (eqb (control_byte bytes / 4) 0)))))

-- the fragment in the bytes given, unless its header is wrong
unfoldable pub fragment_in : ℕ → List ℕ → Option Fragment
fragment_in context bytes =
    pick (header_wrong context bytes) none
    (some (pick (eqb (control_byte bytes % 2) 1) command dataset (eqb (control_byte bytes / 2 % 2) 1) (drop 6 bytes)))

-- the five states: in command with the bytes so far, in data with the command and the data so far, skipping data with the command
pub data Input : Type 0 where
  idle : Input
  in_command : List ℕ → Input
  skipping_command : Input
  in_data : List ℕ → List ℕ → Input
  skipping_data : List ℕ → Input

-- what a fragment comes to
pub data Outcome : Type 0 where
  ignores : Outcome
  waits : Input → Outcome
  drops : Outcome
  asks : List ℕ → DataSet → Outcome

-- past 1,024 bytes all is skipped to the last one, then dropped
unfoldable pub skips : Bool → Outcome
skips last = pick last drops (waits skipping_command)

unfoldable pub reads : Reading → List ℕ → Outcome
reads NotReadable c = drops
reads Alone c = asks c no_data
reads WithData c = waits (in_data c [])

-- the most bytes of a command set
abbrev pub command_limit : ℕ
command_limit = 1024

-- the command bytes so far
unfoldable pub gathers : (List ℕ → Reading) → List ℕ → Bool → Outcome
gathers reading c last = pick (leb (length c) command_limit) (pick last (reads (reading c) c) (waits (in_command c))) (skips last)

-- past the message buffer all is skipped to the last one, then answered
unfoldable pub overflows : List ℕ → Bool → Outcome
overflows c last = pick last (asks c too_long) (waits (skipping_data c))

-- the data bytes so far
unfoldable pub stores : ℕ → List ℕ → List ℕ → Bool → Outcome
stores room c d last = pick (leb (length d) room) (pick last (asks c (whole d)) (waits (in_data c d))) (overflows c last)

-- a fragment, by the state that it is met in
unfoldable pub collect : (List ℕ → Reading) → ℕ → Input → Fragment → Outcome
collect reading room idle (command last bytes) = gathers reading bytes last
collect reading room (in_data c d) (command last bytes) = gathers reading bytes last
collect reading room (skipping_data c) (command last bytes) = gathers reading bytes last
collect reading room (in_command c) (command last bytes) = gathers reading (c ++ bytes) last
collect reading room skipping_command (command last bytes) = skips last
collect reading room (in_command c) (dataset last bytes) = drops
collect reading room skipping_command (dataset last bytes) = drops
collect reading room (in_data c d) (dataset last bytes) = stores room c (d ++ bytes) last
collect reading room (skipping_data c) (dataset last bytes) = overflows c last
collect reading room idle (dataset last bytes) = ignores

-- the message buffer after a fragment: data that fits is laid behind the data before it, all else stays
unfoldable pub laid_by : ℕ → Input → Fragment → List ℕ → List ℕ
laid_by room (in_data c d) (dataset last bytes) message = pick (leb (length (d ++ bytes)) room) (laid message (length d) bytes) message
laid_by room (in_data c d) (command last bytes) message = message
laid_by room idle f message = message
laid_by room (in_command c) f message = message
laid_by room skipping_command f message = message
laid_by room (skipping_data c) f message = message

-- what a call returns and writes; done is 0, a success may be a warning, and the note of a response may name a part of its data set
pub data Answer (Response Told : Type 0) : Type 0 where
  refused : ℕ → Answer Response Told
  done : Answer Response Told
  told : Told → Answer Response Told
  ignored wait dropped : Answer Response Told
  failure success : Response → DataSet → Answer Response Told

pub record Records (Core : Type 0) : Type 0 where
  pub core : Core
  pub input : Input

pub record Step (Core Response Told : Type 0) : Type 0 where
  pub records : Records Core
  pub answer : Answer Response Told

abbrev pub leaves : {Core Response Told : Type 0} → Core → Input → Answer Response Told → Step Core Response Told
leaves k i a = record { records = record { core = k; input = i }; answer = a }

module _ (G : Service) where
  open G use {Core, handed, Response, Told, check, started, opened, closed, asked, context, room, reading, request}

  unfoldable pub answered : Core → DataSet → Result Core Response → Step Core Response Told
  answered k d (fails r) = leaves k idle (failure r d)
  answered k d (does k' r) = leaves k' idle (success r d)

  unfoldable pub carried_out : Core → Outcome → Step Core Response Told
  carried_out k ignores = leaves k idle ignored
  carried_out k (waits i) = leaves k i wait
  carried_out k drops = leaves k idle dropped
  carried_out k (asks c d) = answered k d (request k c d)

  -- a fragment; with a wrong header the association ends as by close
  unfoldable pub fed : Records Core → Option Fragment → Step Core Response Told
  fed s none = leaves (closed s.core) idle (refused 5)
  fed s (some f) = carried_out s.core (collect reading (room s.core) s.input f)

  unfoldable pub checked : Check → Records Core → Call handed → Step Core Response Told
  checked (refuses n) s c = record { records = s; answer = refused n }
  checked passes s (start a) = leaves (started a) idle done
  checked passes s (opening a) = leaves (opened s.core a) idle done
  checked passes s (feed bytes a) = fed s (fragment_in (context s.core) bytes)
  checked passes s close = leaves (closed s.core) idle done
  checked passes s (aside a) = leaves (asked s.core a).0 s.input (told (asked s.core a).1)

  -- one call
  unfoldable pub step : Records Core → Call handed → Step Core Response Told
  step s c = checked (check s.core c) s c

  -- the message buffer after a feed
  unfoldable pub laid_if : Check → Records Core → Option Fragment → List ℕ → List ℕ
  laid_if (refuses n) s f message = message
  laid_if passes s none message = message
  laid_if passes s (some f) message = laid_by (room s.core) s.input f message

  unfoldable pub message_after : Records Core → List ℕ → handed.Feed → List ℕ → List ℕ
  message_after s bytes a message = laid_if (check s.core (feed bytes a)) s (fragment_in (context s.core) bytes) message
