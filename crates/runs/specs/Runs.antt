-- DEMAND 3 over the bytes of the calls: runs, the messages in them and how each ended, and what is left of a run without some of them.
use Rattle.std.specs.Prelude.{◌≡◌, Bool, true, List, [], ◌∷◌, ◌++◌, map, ℕ, ◌+◌, ◌≤◌, eqb, leb, length, take}
use Rattle.choice.specs.Pick.{pick, both}
use Rattle.choice.specs.Rules.{Rule, first_or}
use Rattle.octets.specs.Octets.{Bytes, number_at, part, laid}
use Rattle.strike.specs.Service.{DataSet, Result, fails, does, Call, start, opening, feed, close, aside, Check, passes, refuses, Service}
use Rattle.strike.specs.Machine.{idle, Records}
use Rattle.strike.specs.Messages.{Event, struck, Fate, succeeded, failed, wasDropped, wasCutOff, unsettled, strikeable, is_of, history}
use Rattle.rules.specs.declared.Core.{Core}
use Rattle.rules.specs.Records.{is_open}
use Rattle.rules.specs.Commands.{number_in}
use Rattle.rules.specs.declared.Note.TheVariants.{NoNote}
use Rattle.rules.specs.Responses.{is_failure, Reply}
use Rattle.rules.specs.Sound.{sound}
use Rattle.rules.specs.Layout.{records_size, unpack}
use Rattle.rules.specs.Checks.{decide}
use Rattle.rules.specs.Calls.{Starting, Opening, Aside, handed, start_rules, rules_of, started, opened, closed, asked, reading}
use Rattle.rules.specs.Outcomes.{input_in, short_rules, records_rules}
use Rattle.runs.specs.Host.{Kept, call_of, lent_by, Shown}
use Rattle.runs.specs.CallContracts.{Known, Made, CallMade}

-- Printing over whatever bytes are handed over as records: good ones, or bytes of no use to any call but start.

pub data Store : Type 0 where
  good : Core → Store
  useless : List ℕ → Store

abbrev pub usable : List ℕ → Bool
usable b = both (leb records_size (length b)) (sound (unpack b))

unfoldable pub store_in : List ℕ → Store
store_in b = pick (usable b) (good (unpack b).core) (useless b)

abbrev pub refusals : Store → Call handed → List Rule
refusals (good k) c = rules_of k c
refusals (useless b) (start h) = short_rules b ++ start_rules h
refusals (useless b) (opening h) = records_rules b
refusals (useless b) (feed bytes h) = records_rules b
refusals (useless b) close = records_rules b
refusals (useless b) (aside h) = records_rules b

unfoldable pub store_check : Store → Call handed → Check
store_check s c = first_or refuses (refusals s c) passes

-- What the calls do with good records. Useless ones are refused before, and stay.

abbrev pub on_good : (Core → Core) → Store → Store
on_good f (good k) = good (f k)
on_good f (useless b) = useless b

abbrev pub of_good : (Core → ℕ) → Store → ℕ
of_good f (good k) = f k
of_good f (useless b) = 0

abbrev pub asked_of : Store → Aside → Store × List ℕ
asked_of (good k) a = (good (asked k a).0, (asked k a).1)
asked_of (useless b) a = (useless b, [])

abbrev pub result_good : Result Core Reply → Result Store Reply
result_good (fails r) = fails r
result_good (does k r) = does (good k) r

abbrev pub decide_from : Store → List ℕ → DataSet → Result Store Reply
decide_from (good k) c d = result_good (decide k c d)
decide_from (useless b) c d = fails (record { status = 0; command = []; data_set = []; note = NoNote })

abbrev pub over_bytes : Service
over_bytes = record {
  Core = Store;
  handed = handed;
  Response = Reply;
  Told = List ℕ;
  check = store_check;
  started = λ (h : Starting). good (started h);
  opened = λ (s : Store) (h : Opening). on_good (λ (k : Core). opened k h) s;
  closed = on_good closed;
  asked = asked_of;
  context = of_good (λ (k : Core). k.opened.context);
  room = of_good (λ (k : Core). k.opened.room);
  reading = reading;
  request = decide_from;
}

-- The records in the two buffers, as the machine has them.
abbrev pub view_of : Kept → Records Store
view_of k = record { core = store_in k.records; input = pick (usable k.records) (input_in (unpack k.records).input k.message) idle }

-- sessions, films, boxes, queue and next numbers, in the records' bytes
abbrev pub core_in : Kept → Core
core_in k = (unpack k.records).core

-- Runs.

abbrev pub in_association : List ℕ → Bool
in_association b = both (usable b) (is_open (unpack b).core)

-- handed back untouched: the records and, while an association is open, its message buffer
pub record HandedBack (left lent : Kept) : Type 0 where
  pub records : lent.records ≡ left.records
  pub message : in_association left.records ≡ true → lent.message ≡ left.message

unfoldable pub Ran : Known → Kept → List Made → Type 0
Ran K k [] = Unit {0}
Ran K k (m ∷ ms) = HandedBack k m.lent × CallMade K m.lent m.call m.left m.shown × Ran K m.left ms

unfoldable pub last_left : Kept → List Made → Kept
last_left k [] = k
last_left k (m ∷ ms) = last_left m.left ms

-- The messages of a run, and how each ended, as the host was shown it.

abbrev pub calls_read : List Made → List (Call handed)
calls_read = map (λ (m : Made). call_of m.lent m.call)

-- each call with the message that it is of, by the machine's own history
abbrev pub events_of : Kept → List Made → List (Event handed Reply (List ℕ))
events_of k ms = history over_bytes (view_of k) (calls_read ms)

-- the response in the command buffer, as long as the report says, and the status in it
abbrev pub response_shown : Shown → List ℕ
response_shown s = take (number_at 2 s.buffers.report 2) s.buffers.command

abbrev pub status_shown : Shown → ℕ
status_shown s = number_in (response_shown s) 0x0000_0900

-- what a call shows of its message, or else what is shown later; 17 is dropped, 19 a response
abbrev pub fate_in : Shown → Fate → Fate
fate_in s later =
    pick (eqb s.number 17) wasDropped
    (pick (eqb s.number 19) (pick (is_failure (status_shown s)) failed succeeded) later)

unfoldable pub fate_shown : ℕ → List (Event handed Reply (List ℕ)) → List Made → Fate
fate_shown i [] ms = unsettled
fate_shown i (e ∷ es) [] = unsettled
fate_shown i (e ∷ es) (m ∷ ms) =
    pick (is_of i e.message) (fate_in m.shown (fate_shown i es ms))
    (pick (is_of i e.cuts) wasCutOff (fate_shown i es ms))

-- a set of messages each of which was answered with a failure, dropped, or cut off by the next command
abbrev pub MayStrike : Kept → List Made → (ℕ → Bool) → Type 0
MayStrike k ms S = (i : ℕ) → S i ≡ true → strikeable (fate_shown i (events_of k ms) ms) ≡ true

-- The same answer.

-- a buffer that is lent, and as it stands afterwards: some bytes are written over its start, and the rest of it stays
pub record WrittenOver (bytes before after : List ℕ) : Type 0 where
  pub fits : length bytes ≤ length before
  pub over : after ≡ laid before 0 bytes

-- the same is written in either run, whatever stood in the buffers
pub record SameWritten (before after other otherAfter : List ℕ) : Type 0 where
  pub bytes : List ℕ
  pub here : WrittenOver bytes before after
  pub there : WrittenOver bytes other otherAfter

-- the bytes of the message buffer that the note of a picture covers; none where a call shows no such note
abbrev pub notes_picture : Shown → Bool
notes_picture s = both (eqb s.number 19) (eqb (number_at 2 s.buffers.report 6) 2)

abbrev pub pixels_in : Shown → List ℕ → List ℕ
pixels_in s message =
    pick (notes_picture s)
    (part message (number_at 4 s.buffers.report 12) (number_at 4 s.buffers.report 12 + number_at 4 s.buffers.report 16))
    []

pub record SameAnswer (m n : Made) : Type 0 where
  pub number : m.shown.number ≡ n.shown.number
  pub command : SameWritten (lent_by m.call).command m.shown.buffers.command (lent_by n.call).command n.shown.buffers.command
  pub data_set : SameWritten (lent_by m.call).data_set m.shown.buffers.data_set (lent_by n.call).data_set n.shown.buffers.data_set
  pub report : SameWritten (lent_by m.call).report m.shown.buffers.report (lent_by n.call).report n.shown.buffers.report
  pub entry : SameWritten (lent_by m.call).entry m.shown.buffers.entry (lent_by n.call).entry n.shown.buffers.entry
  pub pixels : pixels_in m.shown m.left.message ≡ pixels_in n.shown n.left.message

-- two lists, one element beside the other
unfoldable pub Pairwise : {A : Type 0} → (A → A → Type 0) → List A → List A → Type 0
Pairwise R [] [] = Unit {0}
Pairwise R [] (y ∷ ys) = ⊥
Pairwise R (x ∷ xs) [] = ⊥
Pairwise R (x ∷ xs) (y ∷ ys) = R x y × Pairwise R xs ys

-- of a list with one element for each event, those whose events are not of a struck message
unfoldable pub left_of : {A : Type 0} → (ℕ → Bool) → List (Event handed Reply (List ℕ)) → List A → List A
left_of S [] xs = []
left_of S (e ∷ es) [] = []
left_of S (e ∷ es) (x ∷ xs) = pick (struck S e.message) (left_of S es xs) (x ∷ left_of S es xs)

-- DEMAND 3: two runs from the same buffers, of calls of which so much is known; the second has the calls that are left of the first,
-- with the same arguments, fragments and lengths of buffers. Each of its calls gets the same answer, and the core ends the same.

pub record Same (k : Kept) (whole left : List Made) (S : ℕ → Bool) : Type 0 where
  pub same_answers : Pairwise SameAnswer (left_of S (events_of k whole) whole) left
  pub same_core : core_in (last_left k left) ≡ core_in (last_left k whole)

unfoldable pub StrikeOut : Known → Type 0
StrikeOut K =
    (k : Kept) → Bytes k.records → (whole left : List Made) → Ran K k whole → Ran K k left → (S : ℕ → Bool) → MayStrike k whole S →
    calls_read left ≡ left_of S (events_of k whole) (calls_read whole) → Same k whole left S
