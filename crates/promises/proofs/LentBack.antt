-- What a take and a feed leave in the buffers that were lent to them is read by place as it was meant.
-- Assumes nothing.
use Prim.Native.Nat.{ℕ, ◌<◌, ◌≤◌}
use mathlib.Core.Path.{◌≡◌, refl, sym, subst}
use mathlib.Core.List.{List}
use mathlib.Core.Option.{Option, none, some}
use native.Mathlib.Omega.{arith}
use lib.Dec.{eqb, leb, ltb}
use lib.ListN.{length}
use borrow.Author.Tests.{ltb-false, eqb-false}
use Rattle.choice.specs.Pick.{both, not}
use Rattle.choice.proofs.Picks.{pick_cases, not_true, not_false, Kept, number_cases}
use Rattle.octets.specs.Octets.{laid, Bytes}
use Rattle.strike.specs.Service.{DataSet, Result, fails, does, feed, Check, passes, refuses}
use Rattle.strike.specs.Machine.{Fragment, fragment_in, Outcome, ignores, waits, drops, asks, Records, collect, laid_by, answered, carried_out, fed, checked, step, laid_if}
use Rattle.strike.proofs.Lies.{DataLies, OutcomeLies, collect_lies}
use Rattle.rules.specs.Bounds.{most_room, report_room, entry_room}
use Rattle.rules.specs.declared.Opened.{Opened}
use Rattle.rules.specs.declared.Core.{Core}
use Rattle.rules.specs.Records.{entries_of, is_open}
use Rattle.rules.specs.Responses.{Reply}
use Rattle.rules.specs.Sound.{sound}
use Rattle.rules.specs.Layout.{records_size, unpack}
use Rattle.rules.specs.Checks.{decide}
use Rattle.rules.specs.Calls.{feed_rules, check, taken, reading, printing}
use Rattle.rules.specs.Outcomes.{records_in, report_bytes, records_rules, Taking, nothing_taken, took, takes, Feeding, Lent, nothing_fed, fed_only, refused_with, fed_to, lengths, feeds}
use Rattle.rules.proofs.Accepted.{rules_kept}
use Rattle.promises.proofs.Facts.{core_facts}
use Rattle.promises.proofs.Collecting.{DataFits, OutcomeFits, collect_fits, in_fits, view_lies, room_told}
use Rattle.promises.proofs.Kept.{sound_parts}
use Rattle.promises.proofs.Unpacked.{unpacked_sized}
use Rattle.promises.proofs.Next.{room_most}
use Rattle.promises.proofs.Decided.{reply_of}
use Rattle.promises.proofs.Notes.{NoteWithin, note_within}
use Rattle.promises.proofs.EntryBack.{EntryMeans, entry_at, entry_means_laid}
use Rattle.promises.proofs.ReportBack.{ReportMeans, report_means_laid}
use Rattle.strike.proofs.Opened.{the_machine}

-- A take.

abbrev OldestMeant : Core → Taking → Type 0
OldestMeant k t = t.number ≡ 0 → EntryMeans t.entry k.numbers (entry_at k 0)

-- What a take that answers 0 leaves in the lent buffer is read as the oldest entry of the records that it was called with.
pub take_means : (b lent : List ℕ) → Bytes b → (takes b lent).number ≡ 0 → EntryMeans (takes b lent).entry (unpack b).core.numbers (entry_at (unpack b).core 0)
unfolding takes taken
take_means b lent o =
    let k = (unpack b).core in
    pick_cases (OldestMeant k) (both (leb records_size (length b)) (not (sound (unpack b)))) (nothing_taken b lent 1) _ (λ _ z. absurd (omega arith))
    (λ e. pick_cases (OldestMeant k) (ltb (length b) records_size) (nothing_taken b lent 2) _ (λ _ z. absurd (omega arith))
    (λ f. pick_cases (OldestMeant k) (ltb (length lent) entry_room) (nothing_taken b lent 2) _ (λ _ z. absurd (omega arith))
    (λ g. pick_cases (OldestMeant k) (eqb (length (entries_of k.queue)) 0) (nothing_taken b lent 6) (took b lent (taken k)) (λ _ z. absurd (omega arith))
    (λ some z.
    let one = eqb-false (length (entries_of k.queue)) 0 some in
    entry_means_laid k (sound_parts (unpack b) (rules_kept b (e, (f, tt)))).0 (unpacked_sized b o) 0 (omega arith) lent (omega (arith, ltb-false (length lent) entry_room g))))))

-- A feed.

-- A reply stands in the buffers that were lent for it, and the report means it.
pub record ReplyMeant (l : Lent) (f : Feeding) (r : Reply) : Type 0 where
  pub command : f.command ≡ laid l.command 0 r.command
  pub data_set : f.data_set ≡ laid l.data_set 0 r.data_set
  pub report : ReportMeans f.report r

-- It is the reply that the book decides of a command set and a data set; the data set lies at the start of the message buffer, and the
-- pixels that are noted lie within the data set.
pub record Responded (l : Lent) (f : Feeding) : Type 0 where
  pub request : List ℕ
  pub sent : DataSet
  pub meant : ReplyMeant l f (reply_of (decide (unpack l.records).core request sent))
  pub lies : DataLies sent f.message
  pub note : NoteWithin (length sent.bytes) (reply_of (decide (unpack l.records).core request sent)).note

abbrev IfResponse : Lent → Feeding → Type 0
IfResponse l f = f.number ≡ 19 → Responded l f

answered_meant : (l : Lent) (message : List ℕ) (k : Core) (d : DataSet) (x : Result Core Reply) → ReportMeans (laid l.report 0 (report_bytes (reply_of x))) (reply_of x) → ReplyMeant l (fed_to l message (answered printing k d x)) (reply_of x)
unfolding answered
answered_meant l message k d (fails r) h = record { command = refl; data_set = refl; report = h }
answered_meant l message k d (does after r) h = record { command = refl; data_set = refl; report = h }

answered_message : (l : Lent) (message : List ℕ) (k : Core) (d : DataSet) (x : Result Core Reply) → (fed_to l message (answered printing k d x)).message ≡ message
unfolding answered
answered_message l message k d (fails r) = refl
answered_message l message k d (does after r) = refl

pub data_room_lem : (o : Opened) (d : DataSet) → o.room ≤ most_room → DataFits o d → length d.bytes ≤ most_room
data_room_lem o d h f = omega arith

refused_meant : (l : Lent) (r : Records Core) (message : List ℕ) (n : ℕ) → n < 19 → IfResponse l (refused_with l r message n)
refused_meant l r message n h = pick_cases (IfResponse l) (eqb n 5) (fed_only l r message 5) (nothing_fed l n) (λ _ z. absurd (omega arith)) (λ _ z. absurd (omega arith))

module _ (l : Lent) (kept : Kept (records_rules l.records)) (rules : Kept (feed_rules (unpack l.records).core (lengths l))) where
  outcome_meant_lem : (message : List ℕ) (o : Outcome) → OutcomeFits (unpack l.records).core.opened o → OutcomeLies o message → IfResponse l (fed_to l message (carried_out printing (unpack l.records).core o))
  unfolding carried_out
  outcome_meant_lem message ignores h b = λ z. absurd (omega arith)
  outcome_meant_lem message (waits i) h b = λ z. absurd (omega arith)
  outcome_meant_lem message drops h b = λ z. absurd (omega arith)
  outcome_meant_lem message (asks c d) h b = λ z.
      let k = (unpack l.records).core in
      let keeps = (sound_parts (unpack l.records) (rules_kept l.records kept)).0 in
      let room = data_room_lem k.opened d (room_most k.opened (core_facts k keeps).opened) h.1 in
      let long = ltb-false (length l.report) report_room rules.1.1.1.0 in
      record {
        request = c;
        sent = d;
        meant = answered_meant l message k d (decide k c d) (report_means_laid k c d keeps room l.report long);
        lies = subst (DataLies d) (sym (answered_message l message k d (decide k c d))) b;
        note = note_within k keeps c d;
      }

  fed_meant : (f : Option Fragment) → IfResponse l (fed_to l (laid_if printing passes (records_in (unpack l.records) l.message) f l.message) (fed printing (records_in (unpack l.records) l.message) f))
  unfolding fed laid_if
  fed_meant none = λ z. absurd (omega arith)
  fed_meant (some f) =
      let s = unpack l.records in
      let i = (records_in s l.message).input in
      let room = s.core.opened.room in
      let live = not_true (eqb s.core.opened.live 0) (not_false (is_open s.core) rules.1.1.1.1.0) in
      let fits = in_fits s.core.opened s.input l.message (sound_parts s (rules_kept l.records kept)).1 in
      outcome_meant_lem (laid_by room i f l.message) (collect reading room i f)
      (collect_fits s.core.opened live i f fits)
      (subst (λ (n : ℕ). OutcomeLies (collect reading n i f) (laid_by n i f l.message)) (sym (room_told s.core (lengths l) rules)) (collect_lies reading i f l.message (view_lies s.input l.message)).0)

-- Where a feed answers with a response, 19, the reply that the book decides stands in the lent buffers, and the report is read as it was meant.
pub feed_means : (l : Lent) (fragment : List ℕ) → (feeds l fragment).number ≡ 19 → Responded l (feeds l fragment)
unfolding the_machine feeds check
feed_means l fragment =
    let s = records_in (unpack l.records) l.message in
    let f = fragment_in s.core.opened.context fragment in
    number_cases (IfResponse l) (λ n. n < 19) (nothing_fed l) (records_rules l.records) _ (omega arith) (λ n h z. absurd (omega arith))
    (λ kept. number_cases (λ (x : Check). IfResponse l (fed_to l (laid_if printing x s f l.message) (checked printing x s (feed fragment (lengths l))))) (λ n. n < 19) refuses (feed_rules s.core (lengths l)) passes (omega arith)
    (λ n h. refused_meant l s l.message n h)
    (λ rules. fed_meant l kept rules f))
