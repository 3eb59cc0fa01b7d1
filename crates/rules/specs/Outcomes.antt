-- A call refused: each call over its buffers. One record has the number returned and every lent buffer afterwards.
use Rattle.std.specs.Prelude.{ℕ, List, [], ◌∷◌, ◌++◌, eqb, leb, ltb, length, take, replicate}
use Rattle.choice.specs.Pick.{pick, both, not}
use Rattle.choice.specs.Rules.{Rule, ◌⇒◌, first_or}
use Rattle.octets.specs.Octets.{octets, laid}
use Rattle.strike.specs.Service.{Call, start, opening, feed, close}
use Rattle.strike.specs.Machine as machine
use Rattle.strike.specs.Machine.{command_limit, idle, in_command, skipping_command, in_data, skipping_data, Answer, refused, done, told, ignored, wait, dropped, failure, success, Records, Step, step, message_after}
use Rattle.rules.specs.declared.Core.{Core}
use Rattle.rules.specs.declared.Input.{Input}
use Rattle.rules.specs.declared.State.{State}
use Rattle.rules.specs.Lists.{filled_to}
use Rattle.rules.specs.Records.{command_held}
use Rattle.rules.specs.declared.Note.{Note}
use Rattle.rules.specs.declared.Note.TheVariants.{NoNote, FilmsQueued, PictureAt, StoppedAt}
use Rattle.rules.specs.Responses.{Reply}
use Rattle.rules.specs.Sound.{sound}
use Rattle.rules.specs.Layout.{records_size, unpack, pack}
use Rattle.rules.specs.Calls.{Starting, Opening, Lengths, handed, take_rules, taken, printing}

-- The input as the records and the message buffer hold it: "Data lies in the message buffer from its start."

unfoldable pub input_in : Input → List ℕ → machine.Input
input_in i message =
    pick (eqb i.phase 1) (in_command (command_held i))
    (pick (eqb i.phase 2) skipping_command
    (pick (eqb i.phase 3) (in_data (command_held i) (take i.got message))
    (pick (eqb i.phase 4) (skipping_data (command_held i)) idle)))

abbrev pub held : ℕ → List ℕ → ℕ → Input
held phase command got = record { phase = phase; used = length command; got = got; command = filled_to command_limit 0 command }

unfoldable pub input_held : machine.Input → Input
input_held idle = held 0 [] 0
input_held (in_command c) = held 1 c 0
input_held skipping_command = held 2 [] 0
input_held (in_data c d) = held 3 c (length d)
input_held (skipping_data c) = held 4 c 0

abbrev pub records_in : State → List ℕ → Records Core
records_in s message = record { core = s.core; input = input_in s.input message }

-- the records' bytes afterwards; bytes past them stay
unfoldable pub written : Records Core → List ℕ → List ℕ
written r b = laid b 0 (pack (record { core = r.core; input = input_held r.input }))

-- the same with another core alone: the message half collected stays as it stands
unfoldable pub core_written : Core → List ℕ → List ℕ
core_written k b = laid b 0 (pack (record { core = k; input = (unpack b).input }))

-- What a response fills: command, data set, report.

abbrev pub note_bytes : Note → List ℕ
note_bytes NoNote = octets 2 0 ++ replicate 12 0
note_bytes (FilmsQueued n) = octets 2 1 ++ (octets 4 n ++ replicate 8 0)
note_bytes (PictureAt n place size) = octets 2 2 ++ (octets 4 n ++ (octets 4 place ++ octets 4 size))
note_bytes (StoppedAt stop) = octets 2 3 ++ (octets 4 stop.number ++ (octets 4 stop.place ++ octets 4 stop.depth))

unfoldable pub report_bytes : Reply → List ℕ
report_bytes r = octets 2 r.status ++ (octets 2 (length r.command) ++ (octets 2 (length r.data_set) ++ note_bytes r.note))

-- rule 8.2, the number of each answer: done 0, the refusals 1 to 6, wait 16, dropped 17, ignored 18, response 19
unfoldable pub number_of : Answer Reply (List ℕ) → ℕ
number_of (refused n) = n
number_of done = 0
number_of (told entry) = 0
number_of ignored = 18
number_of wait = 16
number_of dropped = 17
number_of (failure r d) = 19
number_of (success r d) = 19

-- Lines 1 and 2 for the records themselves: "records long enough break a rule", "too short".

abbrev pub short_rules : List ℕ → List Rule
short_rules b = (ltb (length b) records_size ⇒ 2) ∷ []

abbrev pub records_rules : List ℕ → List Rule
records_rules b = (both (leb records_size (length b)) (not (sound (unpack b))) ⇒ 1) ∷ short_rules b

-- Start, open, close.

pub record Outcome : Type 0 where
  pub number : ℕ
  pub records : List ℕ

abbrev pub changed : List ℕ → Step Core Reply (List ℕ) → Outcome
changed b s = record { number = number_of s.answer; records = written s.records b }

abbrev pub unchanged : List ℕ → ℕ → Outcome
unchanged b n = record { number = n; records = b }

-- "number only, nothing changed": a refused call packs the very records that it unpacked, so nothing is written
abbrev pub or_unchanged : List ℕ → Step Core Reply (List ℕ) → Outcome
or_unchanged b s = pick (eqb (number_of s.answer) 0) (changed b s) (unchanged b (number_of s.answer))

abbrev pub called : List Rule → List ℕ → Call handed → Outcome
called rules b c = first_or (unchanged b) rules (or_unchanged b (step printing (records_in (unpack b) []) c))

-- start looks at no record: any will do
unfoldable pub starts : List ℕ → Starting → Outcome
starts b h = called (short_rules b) b (start h)

unfoldable pub opens : List ℕ → Opening → Outcome
opens b h = called (records_rules b) b (opening h)

unfoldable pub closes : List ℕ → Outcome
closes b = called (records_rules b) b close

-- Take.

pub record Taking : Type 0 where
  pub number : ℕ
  pub records : List ℕ
  pub entry : List ℕ

abbrev pub nothing_taken : List ℕ → List ℕ → ℕ → Taking
nothing_taken b e n = record { number = n; records = b; entry = e }

abbrev pub took : List ℕ → List ℕ → Core × List ℕ → Taking
took b e t = record { number = 0; records = core_written t.0 b; entry = laid e 0 t.1 }

unfoldable pub takes : List ℕ → List ℕ → Taking
takes b e =
    first_or (nothing_taken b e) (records_rules b)
    (first_or (nothing_taken b e) (take_rules (unpack b).core (length e))
    (took b e (taken (unpack b).core)))

-- Feed.

pub record Feeding : Type 0 where
  pub number : ℕ
  pub records : List ℕ
  pub message : List ℕ
  pub command : List ℕ
  pub data_set : List ℕ
  pub report : List ℕ

-- the buffers lent to a feed
pub record Lent : Type 0 where
  pub records : List ℕ
  pub message : List ℕ
  pub command : List ℕ
  pub data_set : List ℕ
  pub report : List ℕ

abbrev pub nothing_fed : Lent → ℕ → Feeding
nothing_fed l n = record { number = n; records = l.records; message = l.message; command = l.command; data_set = l.data_set; report = l.report }

-- "Any other answer writes none of command, data, report."
abbrev pub fed_only : Lent → Records Core → List ℕ → ℕ → Feeding
fed_only l r message n = record {
  number = n;
  records = written r l.records;
  message = message;
  command = l.command;
  data_set = l.data_set;
  report = l.report;
}

-- "Bytes past those written stay."
abbrev pub responded : Lent → Records Core → List ℕ → Reply → Feeding
responded l r message reply = record {
  number = 19;
  records = written r l.records;
  message = message;
  command = laid l.command 0 reply.command;
  data_set = laid l.data_set 0 reply.data_set;
  report = laid l.report 0 (report_bytes reply);
}

-- a wrong header (5) ends the association, every other refusal changes nothing
abbrev pub refused_with : Lent → Records Core → List ℕ → ℕ → Feeding
refused_with l r message n = pick (eqb n 5) (fed_only l r message 5) (nothing_fed l n)

abbrev pub fed_from : Lent → Records Core → List ℕ → Answer Reply (List ℕ) → Feeding
fed_from l r message (refused n) = refused_with l r message n
fed_from l r message done = nothing_fed l 0
fed_from l r message (told entry) = nothing_fed l 0
fed_from l r message ignored = fed_only l r message 18
fed_from l r message wait = fed_only l r message 16
fed_from l r message dropped = fed_only l r message 17
fed_from l r message (failure reply d) = responded l r message reply
fed_from l r message (success reply d) = responded l r message reply

abbrev pub fed_to : Lent → List ℕ → Step Core Reply (List ℕ) → Feeding
fed_to l message s = fed_from l s.records message s.answer

-- the lengths that the check of a feed looks at
abbrev pub lengths : Lent → Lengths
lengths l = record { message = length l.message; command = length l.command; data_set = length l.data_set; report = length l.report }

unfoldable pub feeds : Lent → List ℕ → Feeding
feeds l fragment =
    first_or (nothing_fed l) (records_rules l.records)
    (fed_to l
    (message_after printing (records_in (unpack l.records) l.message) fragment (lengths l) l.message)
    (step printing (records_in (unpack l.records) l.message) (feed fragment (lengths l))))
