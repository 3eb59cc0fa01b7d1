-- Two calls that show one answer of the machine show the same, and how a message ended is what the host was shown.
-- Assumes nothing.
use mathlib.Core.Path.{◌≡◌, refl, sym, ap, ◌∙◌}
use mathlib.Core.Bool.{Bool}
use mathlib.Core.List.{List, [], ◌∷◌}
use Prim.Native.Nat.{ℕ, zero, suc, ◌+◌, ◌-◌, ◌≤◌}
use native.Mathlib.Omega.{arith}
use borrow.Author.Tests.{ne_eqb}
use lib.Dec.{eqb}
use lib.ListN.{length, take, drop}
use lib.Seq.{take-take, take-append_seam}
use Rattle.choice.specs.Pick.{pick}
use Rattle.octets.specs.Octets.{number_at, part, laid}
use Rattle.octets.proofs.Laid.{laid_stands}
use Rattle.strike.specs.Service.{DataSet}
use Rattle.strike.specs.Machine.{Answer, refused, done, told, ignored, wait, dropped, failure, success}
use Rattle.strike.specs.Messages.{Event, Fate, wasCutOff, failed, succeeded, says, is_of, answers_of, fate_of}
use Rattle.strike.proofs.Lies.{DataLies, AnswerLies}
use Rattle.rules.specs.Commands.{number_in}
use Rattle.rules.specs.declared.Note.{Note}
use Rattle.rules.specs.declared.Note.TheVariants.{NoNote, FilmsQueued, PictureAt, StoppedAt}
use Rattle.rules.specs.Responses.{is_failure, Reply}
use Rattle.rules.specs.Calls.{handed}
use Rattle.rules.specs.Outcomes.{number_of, report_bytes}
use Rattle.promises.proofs.Notes.{NoteWithin}
use Rattle.promises.proofs.ReportBack.{ReportMeans, report_length, report_reads}
use Rattle.runs.specs.Host.{HostCall, Buffers, lent_by, Shown}
use Rattle.runs.specs.CallContracts.{Made}
use Rattle.runs.specs.Runs.{status_shown, fate_in, fate_shown, pixels_in, SameAnswer}
use Rattle.runs.proofs.Answers.{written_by, shown_of, Responds, Proper}
use Rattle.runs.proofs.Ran.{ShownAs, AllShown}

-- What is written fits.

record AllFit (b w : Buffers) : Type 0 where
  command : length w.command ≤ length b.command
  data_set : length w.data_set ≤ length b.data_set
  report : length w.report ≤ length b.report
  entry : length w.entry ≤ length b.entry

reply_fits : (b : Buffers) (r : Reply) (d : DataSet) → Responds b r d → AllFit b (written_by (success r d))
reply_fits b r d p = record { command = p.command; data_set = p.data_set; report = omega (arith, report_length r, p.report); entry = omega arith }

written_fits : (b : Buffers) (a : Answer Reply (List ℕ)) → Proper b a → AllFit b (written_by a)
written_fits b (refused n) p = record { command = omega arith; data_set = omega arith; report = omega arith; entry = omega arith }
written_fits b done p = record { command = omega arith; data_set = omega arith; report = omega arith; entry = omega arith }
written_fits b (told entry) p = record { command = omega arith; data_set = omega arith; report = omega arith; entry = p }
written_fits b ignored p = record { command = omega arith; data_set = omega arith; report = omega arith; entry = omega arith }
written_fits b wait p = record { command = omega arith; data_set = omega arith; report = omega arith; entry = omega arith }
written_fits b dropped p = record { command = omega arith; data_set = omega arith; report = omega arith; entry = omega arith }
written_fits b (failure r d) p = reply_fits b r d p.0
written_fits b (success r d) p = reply_fits b r d p.0

-- The report of a response, in the buffer that was lent for it.

report_in : (b : Buffers) (r : Reply) (d : DataSet) → Responds b r d → ReportMeans (laid b.report 0 (report_bytes r)) r
report_in b r d p = report_reads r p.fits (laid b.report 0 (report_bytes r)) (laid_stands b.report 0 (report_bytes r) (omega (arith, report_length r, p.report)))

-- The pixels that a note covers are those of the data set.

within_front : (from size most : ℕ) (s : List ℕ) → from + size ≤ most → take size (drop from (take most s)) ≡ take size (drop from s)
within_front zero size most s h = take-take size most s (omega arith)
within_front (suc from) size zero s h = absurd (omega arith)
within_front (suc from) size (suc most) [] h = refl
within_front (suc from) size (suc most) (x ∷ s) h = within_front from size most s (omega arith)

part_front : (s d : List ℕ) (from size : ℕ) → take (length d) s ≡ d → from + size ≤ length d → part s from (from + size) ≡ part d from (from + size)
part_front s d from size e h =
    sym (within_front from (from + size - from) (length d) s (omega arith)) ∙ ap (λ (x : List ℕ). take (from + size - from) (drop from x)) e

-- what a note covers of a data set
abbrev covered : Note → List ℕ → List ℕ
covered NoNote d = []
covered (FilmsQueued n) d = []
covered (PictureAt n place size) d = part d place (place + size)
covered (StoppedAt stop) d = []

abbrev covered_by : Answer Reply (List ℕ) → List ℕ
covered_by (refused n) = []
covered_by done = []
covered_by (told entry) = []
covered_by ignored = []
covered_by wait = []
covered_by dropped = []
covered_by (failure r d) = covered r.note d.bytes
covered_by (success r d) = covered r.note d.bytes

-- a report that tells of a note, and a message buffer in which the data set lies
note_covers : (report message d : List ℕ) (r : Reply) (note : Note) → r.note ≡ note → ReportMeans report r → NoteWithin (length d) note → take (length d) message ≡ d
    → pick (eqb (number_at 2 report 6) 2) (part message (number_at 4 report 12) (number_at 4 report 12 + number_at 4 report 16)) [] ≡ covered note d
note_covers report message d r NoNote e m w lies = rw (m.kind, e)
note_covers report message d r (FilmsQueued n) e m w lies = rw (m.kind, e)
note_covers report message d r (StoppedAt stop) e m w lies = rw (m.kind, e)
note_covers report message d r (PictureAt n place size) e m w lies = rw (m.kind, m.second, m.third, e) (part_front message d place size lies w.2)

reply_covers : (h : HostCall) (r : Reply) (d : DataSet) (message : List ℕ) → Responds (lent_by h) r d → DataLies d message → pixels_in (shown_of h (success r d)) message ≡ covered r.note d.bytes
unfolding number_of
reply_covers h r d message p lies = note_covers _ message d.bytes r r.note refl (report_in (lent_by h) r d p) p.note lies

pixels_covered : (h : HostCall) (a : Answer Reply (List ℕ)) (message : List ℕ) → Proper (lent_by h) a → AnswerLies a message → pixels_in (shown_of h a) message ≡ covered_by a
unfolding number_of
pixels_covered h (refused n) message p lies = rw (ne_eqb n 19 (λ e. omega (arith, e)))
pixels_covered h done message p lies = refl
pixels_covered h (told entry) message p lies = refl
pixels_covered h ignored message p lies = refl
pixels_covered h wait message p lies = refl
pixels_covered h dropped message p lies = refl
pixels_covered h (failure r d) message p lies = reply_covers h r d message p.0 lies
pixels_covered h (success r d) message p lies = reply_covers h r d message p.0 lies

-- One answer, shown by two calls.

pub same_answer : (m n : Made) (a : Answer Reply (List ℕ)) → ShownAs m a → ShownAs n a → SameAnswer m n
same_answer m n a x y =
    let w = written_by a in
    let fit = written_fits (lent_by m.call) a x.proper in
    let other = written_fits (lent_by n.call) a y.proper in
    record {
      number = ap (λ (s : Shown). s.number) x.same ∙ sym (ap (λ (s : Shown). s.number) y.same);
      command = record {
        bytes = w.command;
        here = record { fits = fit.command; over = ap (λ (s : Shown). s.buffers.command) x.same };
        there = record { fits = other.command; over = ap (λ (s : Shown). s.buffers.command) y.same };
      };
      data_set = record {
        bytes = w.data_set;
        here = record { fits = fit.data_set; over = ap (λ (s : Shown). s.buffers.data_set) x.same };
        there = record { fits = other.data_set; over = ap (λ (s : Shown). s.buffers.data_set) y.same };
      };
      report = record {
        bytes = w.report;
        here = record { fits = fit.report; over = ap (λ (s : Shown). s.buffers.report) x.same };
        there = record { fits = other.report; over = ap (λ (s : Shown). s.buffers.report) y.same };
      };
      entry = record {
        bytes = w.entry;
        here = record { fits = fit.entry; over = ap (λ (s : Shown). s.buffers.entry) x.same };
        there = record { fits = other.entry; over = ap (λ (s : Shown). s.buffers.entry) y.same };
      };
      pixels =
          ap (λ (s : Shown). pixels_in s m.left.message) x.same ∙ pixels_covered m.call a m.left.message x.proper x.lies
          ∙ sym (ap (λ (s : Shown). pixels_in s n.left.message) y.same ∙ pixels_covered n.call a n.left.message y.proper y.lies);
    }

-- How a message ended.

reply_status : (h : HostCall) (r : Reply) (d : DataSet) → Responds (lent_by h) r d → status_shown (shown_of h (success r d)) ≡ r.status
reply_status h r d p =
    ap (λ (n : ℕ). number_in (take n (laid (lent_by h).command 0 r.command)) 0x0000_0900) (report_in (lent_by h) r d p).command
    ∙ ap (λ (c : List ℕ). number_in c 0x0000_0900) (take-append_seam r.command (drop (0 + length r.command) (lent_by h).command))
    ∙ p.status

fate_told : (h : HostCall) (a : Answer Reply (List ℕ)) (later : Fate) → Proper (lent_by h) a → fate_in (shown_of h a) later ≡ says a later
unfolding number_of says
fate_told h (refused n) later p = rw (ne_eqb n 17 (λ e. omega (arith, e)), ne_eqb n 19 (λ e. omega (arith, e)))
fate_told h done later p = refl
fate_told h (told entry) later p = refl
fate_told h ignored later p = refl
fate_told h wait later p = refl
fate_told h dropped later p = refl
fate_told h (failure r d) later p = ap (λ (n : ℕ). pick (is_failure n) failed succeeded) (reply_status h r d p.0) ∙ ap (λ (t : Bool). pick t failed succeeded) p.1
fate_told h (success r d) later p = ap (λ (n : ℕ). pick (is_failure n) failed succeeded) (reply_status h r d p.0) ∙ ap (λ (t : Bool). pick t failed succeeded) p.1

pub fate_shown_lem : (i : ℕ) (es : List (Event handed Reply (List ℕ))) (ms : List Made) → AllShown ms (answers_of es) → fate_shown i es ms ≡ fate_of i es
unfolding AllShown fate_shown fate_of
fate_shown_lem i [] ms x = refl
fate_shown_lem i (e ∷ es) [] x = absurd x
fate_shown_lem i (e ∷ es) (m ∷ ms) x =
    let rest = fate_shown_lem i es ms x.1 in
    ap (λ (later : Fate). pick (is_of i e.message) (fate_in m.shown later) (pick (is_of i e.cuts) wasCutOff later)) rest
    ∙ ap (λ (f : Fate). pick (is_of i e.message) f (pick (is_of i e.cuts) wasCutOff (fate_of i es)))
    (ap (λ (s : Shown). fate_in s (fate_of i es)) x.0.same ∙ fate_told m.call e.answer (fate_of i es) x.0.proper)
