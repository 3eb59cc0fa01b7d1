-- "Data lies in the message buffer from its start": the data collected so far, and the data set of a request when it is answered.
-- Assumes nothing.
use mathlib.Core.Path.{◌≡◌, refl, ◌∙◌}
use mathlib.Core.Bool.{Bool, true, false}
use mathlib.Core.Option.{Option, none, some}
use mathlib.Core.List.{List, ◌++◌, append_assoc}
use Prim.Native.Nat.{ℕ, ◌+◌, ◌≤◌}
use native.Mathlib.Omega.{arith}
use borrow.Author.Tests.{leb-true}
use lib.Dec.{leb}
use lib.ListN.{length, take, drop, length-append}
use lib.Seq.{take_at, length-take-le}
use Rattle.choice.specs.Pick.{pick}
use Rattle.octets.specs.Octets.{laid}
use Rattle.octets.proofs.Laid.{length_laid}
use Rattle.strike.specs.declared.Reading.{Reading}
use Rattle.strike.specs.declared.Reading.TheVariants.{NotReadable, Alone, WithData}
use Rattle.strike.specs.Service.{DataSet, whole}
use Rattle.strike.specs.Service.{Result, fails, does, feed, Check, passes, refuses, Service}
use Rattle.strike.specs.Machine.{Fragment, command, dataset, Input, idle, in_command, skipping_command, in_data, skipping_data}
use Rattle.strike.specs.Machine.{Outcome, ignores, waits, drops, asks, skips, reads, command_limit, gathers, overflows, stores, collect, laid_by}
use Rattle.strike.specs.Machine.{fragment_in, Answer, refused, done, told, ignored, wait, dropped, failure, success, Records, Step, answered, carried_out, fed, checked, step, laid_if, message_after}

-- up to the end of what is laid stands what lay before it, and it
pub take_laid : (s : List ℕ) (at : ℕ) (bytes : List ℕ) → at + length bytes ≤ length s → take (at + length bytes) (laid s at bytes) ≡ take at s ++ bytes
take_laid s at bytes h =
    rw (← append_assoc (take at s) bytes (drop (at + length bytes) s))
    (take_at (take at s ++ bytes) (drop (at + length bytes) s) (at + length bytes) (rw (length-append, length-take-le at s (omega arith))))

-- the data bytes that an input holds lie at the start of the message buffer
abbrev pub Lies : Input → List ℕ → Type 0
Lies idle message = Unit {0}
Lies (in_command c) message = Unit {0}
Lies skipping_command message = Unit {0}
Lies (in_data c d) message = take (length d) message ≡ d
Lies (skipping_data c) message = Unit {0}

-- the same of what a fragment comes to
abbrev pub DataLies : DataSet → List ℕ → Type 0
DataLies d message = take (length d.bytes) message ≡ d.bytes

abbrev pub OutcomeLies : Outcome → List ℕ → Type 0
OutcomeLies ignores message = Unit {0}
OutcomeLies (waits i) message = Lies i message
OutcomeLies drops message = Unit {0}
OutcomeLies (asks c d) message = DataLies d message

skips_lies : (last : Bool) (message : List ℕ) → OutcomeLies (skips last) message
unfolding skips
skips_lies true message = tt
skips_lies false message = tt

reads_lies : (r : Reading) (c message : List ℕ) → OutcomeLies (reads r c) message
unfolding reads
reads_lies NotReadable c message = tt
reads_lies Alone c message = search
reads_lies WithData c message = refl

gathers_lies : (reading : List ℕ → Reading) (c : List ℕ) (last : Bool) (message : List ℕ) → OutcomeLies (gathers reading c last) message
unfolding gathers
gathers_lies reading c last message = cases (leb (length c) command_limit) last
  where
    cases : (fits last : Bool) → OutcomeLies (pick fits (pick last (reads (reading c) c) (waits (in_command c))) (skips last)) message
    cases true true = reads_lies (reading c) c message
    cases true false = tt
    cases false last = skips_lies last message

overflows_lies : (c : List ℕ) (last : Bool) (message : List ℕ) → OutcomeLies (overflows c last) message
unfolding overflows
overflows_lies c true message = search
overflows_lies c false message = tt

module _ (c d bytes message : List ℕ) (h : take (length d) message ≡ d) where
  room_enough : length (d ++ bytes) ≤ length message → length d + length bytes ≤ length message
  room_enough l = omega (arith, length-append d bytes)

  behind : length (d ++ bytes) ≤ length message → take (length (d ++ bytes)) (laid message (length d) bytes) ≡ d ++ bytes
  behind l = rw (length-append d bytes) (take_laid message (length d) bytes (room_enough l) ∙ rw h)

  stores_lies : (fits last : Bool) → leb (length (d ++ bytes)) (length message) ≡ fits
      → OutcomeLies (pick fits (pick last (asks c (whole (d ++ bytes))) (waits (in_data c (d ++ bytes)))) (overflows c last))
      (pick fits (laid message (length d) bytes) message)
      × (length (pick fits (laid message (length d) bytes) message) ≡ length message)
  stores_lies true true e = (behind (leb-true _ _ e), length_laid message (length d) bytes (room_enough (leb-true _ _ e)))
  stores_lies true false e = (behind (leb-true _ _ e), length_laid message (length d) bytes (room_enough (leb-true _ _ e)))
  stores_lies false last e = (overflows_lies c last message, refl)

-- after a fragment data lies there again, and the message buffer has kept its length
pub collect_lies : (reading : List ℕ → Reading) (i : Input) (f : Fragment) (message : List ℕ) → Lies i message
    → OutcomeLies (collect reading (length message) i f) (laid_by (length message) i f message)
    × (length (laid_by (length message) i f message) ≡ length message)
unfolding collect laid_by stores
collect_lies reading idle (command last bytes) message h = (gathers_lies reading bytes last message, refl)
collect_lies reading (in_command c) (command last bytes) message h = (gathers_lies reading (c ++ bytes) last message, refl)
collect_lies reading skipping_command (command last bytes) message h = (skips_lies last message, refl)
collect_lies reading (in_data c d) (command last bytes) message h = (gathers_lies reading bytes last message, refl)
collect_lies reading (skipping_data c) (command last bytes) message h = (gathers_lies reading bytes last message, refl)
collect_lies reading idle (dataset last bytes) message h = (tt, refl)
collect_lies reading (in_command c) (dataset last bytes) message h = (tt, refl)
collect_lies reading skipping_command (dataset last bytes) message h = (tt, refl)
collect_lies reading (in_data c d) (dataset last bytes) message h = stores_lies c d bytes message h (leb (length (d ++ bytes)) (length message)) last refl
collect_lies reading (skipping_data c) (dataset last bytes) message h = (overflows_lies c last message, refl)

-- a response's data set lies at the start of the message buffer
abbrev pub AnswerLies : {Response Told : Type 0} → Answer Response Told → List ℕ → Type 0
AnswerLies (refused n) message = Unit {0}
AnswerLies done message = Unit {0}
AnswerLies (told t) message = Unit {0}
AnswerLies ignored message = Unit {0}
AnswerLies wait message = Unit {0}
AnswerLies dropped message = Unit {0}
AnswerLies (failure r d) message = DataLies d message
AnswerLies (success r d) message = DataLies d message

module _ (G : Service) where
  open G use {Core, handed, Response, Told, check, context, room, reading, request}

  answered_lies : (k : Core) (d : DataSet) (r : Result Core Response) (message : List ℕ) → DataLies d message
      → Lies (answered G k d r).records.input message × AnswerLies (answered G k d r).answer message
  unfolding answered
  answered_lies k d (fails r) message h = (tt, h)
  answered_lies k d (does k' r) message h = (tt, h)

  carried_lies : (k : Core) (o : Outcome) (message : List ℕ) → OutcomeLies o message
      → Lies (carried_out G k o).records.input message × AnswerLies (carried_out G k o).answer message
  unfolding carried_out
  carried_lies k ignores message h = (tt, tt)
  carried_lies k (waits i) message h = (h, tt)
  carried_lies k drops message h = (tt, tt)
  carried_lies k (asks c d) message h = answered_lies k d (request k c d) message h

  -- after a step: the data that the input holds, a response's data set, and the length of the message buffer
  pub record StepLies (x : Step Core Response Told) (message before : List ℕ) : Type 0 where
    pub input_lies : Lies x.records.input message
    pub answer_lies : AnswerLies x.answer message
    pub same_length : length message ≡ length before

  module _ (s : Records Core) (message : List ℕ) (e : room s.core ≡ length message) (h : Lies s.input message) where
    fed_lies : (f : Option Fragment) → StepLies (fed G s f) (laid_if G passes s f message) message
    unfolding fed laid_if
    fed_lies none = record { input_lies = tt; answer_lies = tt; same_length = refl }
    fed_lies (some f) =
        rw e
        (let c = collect_lies reading s.input f message h in
        let o = carried_lies s.core _ _ c.0 in
        record { input_lies = o.0; answer_lies = o.1; same_length = c.1 })

    -- of a feed that a check has passed, or has refused
    pub checked_lies : (x : Check) (bytes : List ℕ) (a : handed.Feed)
        → StepLies (checked G x s (feed bytes a)) (laid_if G x s (fragment_in (context s.core) bytes) message) message
    unfolding checked laid_if
    checked_lies (refuses n) bytes a = record { input_lies = h; answer_lies = tt; same_length = refl }
    checked_lies passes bytes a = fed_lies (fragment_in (context s.core) bytes)

    pub feed_lies : (bytes : List ℕ) (a : handed.Feed) → StepLies (step G s (feed bytes a)) (message_after G s bytes a message) message
    unfolding step message_after
    feed_lies bytes a = checked_lies (check s.core (feed bytes a)) bytes a
