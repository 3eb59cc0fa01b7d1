-- Kept traces: calls with what the second program replied to each (tests/traces), and what the book replies.
-- Assumes nothing.
use mathlib.Core.Path.{◌≡◌}
use mathlib.Core.List.{List, [], ◌∷◌, ◌++◌}
use Prim.Native.Nat.{ℕ}
use lib.Dec.{eqb}
use Rattle.choice.specs.Pick.{pick}
use Rattle.octets.specs.Octets.{number_at}
use Rattle.strike.specs.Service as service
use Rattle.strike.specs.Machine as machine
use Rattle.strike.specs.Machine.{Answer, Records, Step, step, idle}
use Rattle.rules.proofs.Stage.{entry_said}
use Rattle.rules.specs.declared.Core.{Core}
use Rattle.rules.specs.Calls as calls
use Rattle.rules.specs.Calls.{handed, printing, started}
use Rattle.rules.specs.declared.Note.{Note}
use Rattle.rules.specs.declared.Note.TheVariants.{NoNote, FilmsQueued, PictureAt, StoppedAt}
use Rattle.rules.specs.Responses.{Reply}
use Rattle.rules.specs.Outcomes.{report_bytes}

-- a start with root and next numbers, an open with context, syntax and the length of the message buffer, a feed of a fragment
pub data Called : Type 0 where
  start : List ℕ → ℕ → ℕ → Called
  opening : ℕ → ℕ → ℕ → Called
  feed : List ℕ → Called
  close taking : Called

-- what is shown of a call: of a response its status, command, data set and note; and what the records hold, where that is asked
pub data Shown : Type 0 where
  done wait dropped ignored : Shown
  refused : ℕ → Shown
  response : ℕ → List ℕ → List ℕ → Note → Shown
  entry : List ℕ → Shown
  held : List ℕ → Shown

infix 30 ◌gets◌
pub data Line : Type 0 where
  ◌gets◌ : Called → Shown → Line
  -- what no reply shows: numbers of the records as they stand then
  holds : (Core → List ℕ) → List ℕ → Line

-- answer buffers are just long enough, and a feed lends a message buffer of the length that the open fixed
abbrev call_of : Core → Called → service.Call handed
call_of k (start root serial picture) = service.start (record { root = root; serial = serial; picture = picture })
call_of k (opening context syntax message) = service.opening (record { context = context; syntax = syntax; message = message })
call_of k (feed fragment) = service.feed fragment (record { message = k.opened.room; command = 256; data_set = 8192; report = 20 })
call_of k close = service.close
call_of k taking = service.aside (calls.taking entry_said)

-- a report read back: the status at 0, the note's kind at 6, its numbers at 8, 12 and 16
abbrev pub note_in : List ℕ → Note
note_in report =
    pick (eqb (number_at 2 report 6) 0) NoNote
    (pick (eqb (number_at 2 report 6) 1) (FilmsQueued (number_at 4 report 8))
    (pick (eqb (number_at 2 report 6) 2) (PictureAt (number_at 4 report 8) (number_at 4 report 12) (number_at 4 report 16))
    (StoppedAt (record { number = number_at 4 report 8; place = number_at 4 report 12; depth = number_at 4 report 16 }))))

abbrev shown_by : List ℕ → Reply → Shown
shown_by report r = response (number_at 2 report 0) r.command r.data_set (note_in report)

abbrev shown : Answer Reply (List ℕ) → Shown
shown (machine.refused n) = refused n
shown machine.done = done
shown (machine.told bytes) = entry bytes
shown machine.ignored = ignored
shown machine.wait = wait
shown machine.dropped = dropped
shown (machine.failure r d) = shown_by (report_bytes r) r
shown (machine.success r d) = shown_by (report_bytes r) r

-- a run so far: the records, and what was shown
pub record Run : Type 0 where
  pub records : Records Core
  pub shows : List Shown

abbrev went : List Shown → Step Core Reply (List ℕ) → Run
went before s = record { records = s.records; shows = before ++ (shown s.answer ∷ []) }

abbrev turn : Run → Line → Run
turn run (c gets r) = went run.shows (step printing run.records (call_of run.records.core c))
turn run (holds look numbers) = record { records = run.records; shows = run.shows ++ (held (look run.records.core) ∷ []) }

abbrev goes_on : Run → List Line → Run
goes_on run [] = run
goes_on run (l ∷ trace) = goes_on (turn run l) trace

abbrev said : List Line → List Shown
said [] = []
said ((c gets r) ∷ trace) = r ∷ said trace
said (holds look numbers ∷ trace) = held numbers ∷ said trace

-- a trace begins with a start, which looks at no record
abbrev unstarted : Run
unstarted = record { records = record { core = started (record { root = []; serial = 0; picture = 0 }); input = idle }; shows = [] }

-- the book shows of each call what is kept
abbrev pub AsKept : List Line → Type 0
AsKept trace = (goes_on unstarted trace).shows ≡ said trace
