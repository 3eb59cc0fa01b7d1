-- Feed over good records does what the machine does, leaves good records, and a message buffer of the same length in which the data lies.
-- Assumes nothing.
use mathlib.Core.Path.{◌≡◌, refl, sym, ap, subst}
use mathlib.Core.Bool.{true, false}
use mathlib.Core.Option.{Option, none, some}
use mathlib.Core.List.{List, []}
use Prim.Native.Nat.{ℕ, ◌≤◌}
use native.Mathlib.Omega.{arith}
use borrow.Author.Tests.{ltb-false, eqb-true}
use lib.Dec.{eqb}
use lib.ListN.{length}
use Rattle.choice.proofs.Picks.{Kept, pick_cases, first_kept, clash, not_true, not_false}
use Rattle.octets.specs.Octets.{Bytes}
use Rattle.strike.specs.Service.{DataSet, Result, fails, does, feed, Check, passes, refuses}
use Rattle.strike.specs.Machine.{Fragment, fragment_in, Outcome, ignores, waits, drops, asks, collect}
use Rattle.strike.specs.Machine.{Answer, refused, done, told, ignored, wait, dropped, failure, success, Records, Step, answered, carried_out, fed, checked, step, laid_if, message_after}
use Rattle.strike.proofs.Lies.{AnswerLies, StepLies, checked_lies}
use Rattle.rules.specs.declared.Core.{Core}
use Rattle.rules.specs.Bounds.{most_room, command_room, data_room, report_room}
use Rattle.rules.specs.Records.{is_open}
use Rattle.rules.specs.Responses.{Reply}
use Rattle.rules.specs.Sound.{core_sound}
use Rattle.rules.specs.Checks.{decide}
use Rattle.rules.specs.Layout.{unpack}
use Rattle.rules.specs.Calls.{Lengths, feed_rules, check, reading, printing}
use Rattle.rules.specs.Outcomes.{input_in, records_in, written, number_of, records_rules, Feeding, Lent, nothing_fed, fed_only, fed_from, fed_to, lengths, feeds}
use Rattle.promises.proofs.Facts.{core_facts}
use Rattle.promises.proofs.Decided.{reply_of}
use Rattle.promises.proofs.Statuses.{Statused, decide_statused}
use Rattle.promises.proofs.Collecting.{OutcomeFits, collect_fits, in_fits, view_lies, room_told}
use Rattle.promises.proofs.Kept.{sound_parts}
use Rattle.promises.proofs.Good.{bytes_each}
use Rattle.promises.proofs.Next.{room_most}
use Rattle.promises.proofs.Notes.{note_within}
use Rattle.promises.proofs.LentBack.{data_room_lem}
use Rattle.promises.proofs.ReportBack.{lengths_fit, status_shown_lem, report_fits}
use Rattle.runs.specs.Host.{Shown, Buffers}
use Rattle.runs.proofs.Does.{fed_shown}
use Rattle.runs.proofs.Answers.{written_by, over, Responds, Proper}
use Rattle.runs.proofs.Buffers.{RecordsGood, left_good, left_view}
use Rattle.runs.proofs.Refusals.{records_accepted, check_cases}

-- Where a feed writes nothing, the machine's records stay; it tells no entry.

abbrev Stays : Answer Reply (List ℕ) → Type 0 → Type 0
Stays (refused n) same = eqb n 5 ≡ false → same
Stays done same = same
Stays (told entry) same = ⊥
Stays ignored same = Unit {0}
Stays wait same = Unit {0}
Stays dropped same = Unit {0}
Stays (failure reply d) same = Unit {0}
Stays (success reply d) same = Unit {0}

abbrev StepStays : Records Core → Step Core Reply (List ℕ) → Type 0
StepStays s x = Stays x.answer (s ≡ x.records)

answered_stays : (s : Records Core) (k : Core) (d : DataSet) (x : Result Core Reply) → StepStays s (answered printing k d x)
unfolding answered
answered_stays s k d (fails r) = tt
answered_stays s k d (does m r) = tt

carried_stays : (s : Records Core) (k : Core) (x : Outcome) → StepStays s (carried_out printing k x)
unfolding carried_out
carried_stays s k ignores = tt
carried_stays s k (waits i) = tt
carried_stays s k drops = tt
carried_stays s k (asks c d) = answered_stays s k d (decide k c d)

fed_stays : (s : Records Core) (f : Option Fragment) → StepStays s (fed printing s f)
unfolding fed
fed_stays s none = λ e. absurd (clash e refl)
fed_stays s (some f) = carried_stays s s.core (collect reading s.core.opened.room s.input f)

checked_stays : (x : Check) (s : Records Core) (fragment : List ℕ) (h : Lengths) → StepStays s (checked printing x s (feed fragment h))
unfolding checked
checked_stays (refuses n) s fragment h = λ e. refl
checked_stays passes s fragment h = fed_stays s (fragment_in s.core.opened.context fragment)

-- What a feed answers fits the buffers that are lent for it.

abbrev pub buffers_of : Lent → Buffers
buffers_of l = record { command = l.command; data_set = l.data_set; report = l.report; entry = [] }

module _ (l : Lent) (good : RecordsGood l.records) (rules : Kept (feed_rules (unpack l.records).core (lengths l))) where
  abbrev core : Core
  core = (unpack l.records).core

  core_kept : core_sound core ≡ true
  core_kept = (sound_parts (unpack l.records) good.kept).0

  responds : (c : List ℕ) (d : DataSet) → length d.bytes ≤ most_room → Responds (buffers_of l) (reply_of (decide core c d)) d
  responds c d room =
      let lengths = lengths_fit core c d core_kept in
      record {
        command = omega (arith, ltb-false (length l.command) command_room rules.1.0);
        data_set = omega (arith, ltb-false (length l.data_set) data_room rules.1.1.0);
        report = ltb-false (length l.report) report_room rules.1.1.1.0;
        fits = report_fits core c d core_kept room;
        status = status_shown_lem core c d core_kept;
        note = note_within core core_kept c d;
      }

  answered_proper : (d : DataSet) (x : Result Core Reply) → Responds (buffers_of l) (reply_of x) d → Statused x → Proper (buffers_of l) (answered printing core d x).answer
  unfolding answered
  answered_proper d (fails r) p s = (p, s)
  answered_proper d (does k r) p s = (p, s)

  carried_proper : (o : Outcome) → OutcomeFits core.opened o → Proper (buffers_of l) (carried_out printing core o).answer
  unfolding carried_out
  carried_proper ignores h = tt
  carried_proper (waits i) h = tt
  carried_proper drops h = tt
  carried_proper (asks c d) h =
      let room = room_most core.opened (core_facts core core_kept).opened in
      answered_proper d (decide core c d) (responds c d (data_room_lem core.opened d room h.1)) (decide_statused core c d)

  fed_proper : (f : Option Fragment) → Proper (buffers_of l) (fed printing (records_in (unpack l.records) l.message) f).answer
  unfolding fed
  fed_proper none = omega arith
  fed_proper (some f) =
      let s = unpack l.records in
      let live = not_true (eqb core.opened.live 0) (not_false (is_open core) rules.1.1.1.1.0) in
      carried_proper (collect reading core.opened.room (input_in s.input l.message) f)
      (collect_fits core.opened live (input_in s.input l.message) f (in_fits core.opened s.input l.message (sound_parts s good.kept).1))

-- The outcome.

-- what a feed shows of an answer
abbrev pub feed_shown : Lent → Answer Reply (List ℕ) → Shown
feed_shown l a = record {
  number = number_of a;
  buffers = over (buffers_of l) (written_by a);
}

-- an outcome is that of a step of the machine; a data set that it answers lies at the start of the message buffer
pub record FeedingRight (l : Lent) (r : Records Core) (a : Answer Reply (List ℕ)) (x : Feeding) : Type 0 where
  pub good : RecordsGood x.records
  pub view : records_in (unpack x.records) x.message ≡ r
  pub fixed : length x.message ≡ length l.message
  pub same : fed_shown x ≡ feed_shown l a
  pub lies : AnswerLies a x.message
  pub proper : Proper (buffers_of l) a

module _ (l : Lent) (r : Records Core) (message : List ℕ) (before : RecordsGood l.records) (after : RecordsGood (written r l.records))
    (back : records_in (unpack (written r l.records)) message ≡ r) (long : length message ≡ length l.message) where
  from_right : (a : Answer Reply (List ℕ)) → AnswerLies a message → Proper (buffers_of l) a → Stays a (records_in (unpack l.records) l.message ≡ r) → FeedingRight l r a (fed_from l r message a)
  unfolding number_of
  from_right (refused n) lies proper stays =
      pick_cases (FeedingRight l r (refused n)) (eqb n 5) (fed_only l r message 5) (nothing_fed l n)
      (λ e. record { good = after; view = back; fixed = long; same = ap (λ (m : ℕ). feed_shown l (refused m)) (sym (eqb-true n 5 e)); lies = tt; proper = proper })
      (λ e. record { good = before; view = stays e; fixed = refl; same = refl; lies = lies; proper = proper })
  from_right done lies proper stays = record { good = before; view = stays; fixed = refl; same = refl; lies = lies; proper = proper }
  from_right (told entry) lies proper stays = absurd stays
  from_right ignored lies proper stays = record { good = after; view = back; fixed = long; same = refl; lies = lies; proper = proper }
  from_right wait lies proper stays = record { good = after; view = back; fixed = long; same = refl; lies = lies; proper = proper }
  from_right dropped lies proper stays = record { good = after; view = back; fixed = long; same = refl; lies = lies; proper = proper }
  from_right (failure reply d) lies proper stays = record { good = after; view = back; fixed = long; same = refl; lies = lies; proper = proper }
  from_right (success reply d) lies proper stays = record { good = after; view = back; fixed = long; same = refl; lies = lies; proper = proper }

module _ (l : Lent) (fragment : List ℕ) (good : RecordsGood l.records) (bytes : Bytes fragment) where
  abbrev before : Records Core
  before = records_in (unpack l.records) l.message

  abbrev after : Step Core Reply (List ℕ)
  after = step printing before (feed fragment (lengths l))

  abbrev message : List ℕ
  message = message_after printing before fragment (lengths l) l.message

  feed_lies : StepLies printing after message l.message
  unfolding step checked message_after laid_if
  feed_lies =
      let lies = view_lies (unpack l.records).input l.message in
      let k = (unpack l.records).core in
      check_cases k (feed fragment (lengths l))
      (λ (x : Check). StepLies printing (checked printing x before (feed fragment (lengths l))) (laid_if printing x before (fragment_in k.opened.context fragment) l.message) l.message)
      (λ n h. record { input_lies = lies; answer_lies = tt; same_length = refl })
      (λ rules. checked_lies printing before l.message (room_told k (lengths l) rules) lies passes fragment (lengths l))

  feed_proper : Proper (buffers_of l) after.answer
  unfolding step checked
  feed_proper =
      let k = (unpack l.records).core in
      check_cases k (feed fragment (lengths l)) (λ (x : Check). Proper (buffers_of l) (checked printing x before (feed fragment (lengths l))).answer)
      (λ n small. small.1)
      (λ rules. fed_proper l good rules (fragment_in k.opened.context fragment))

  fed_right : FeedingRight l after.records after.answer (fed_to l message after)
  unfolding step
  fed_right =
      let lies = feed_lies in
      from_right l after.records message good
      (left_good l.records l.message (feed fragment (lengths l)) good (bytes_each fragment bytes) after.records refl)
      (left_view l.records l.message (feed fragment (lengths l)) good (bytes_each fragment bytes) after.records message refl lies.input_lies)
      lies.same_length
      after.answer
      lies.answer_lies
      feed_proper
      (checked_stays (check (unpack l.records).core (feed fragment (lengths l))) before fragment (lengths l))

  pub feeds_right : FeedingRight l after.records after.answer (feeds l fragment)
  unfolding feeds
  feeds_right =
      subst (FeedingRight l after.records after.answer)
      (sym (first_kept (nothing_fed l) (records_rules l.records) (fed_to l message after) (records_accepted l.records good)))
      fed_right
