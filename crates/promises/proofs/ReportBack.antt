-- The report of a response is read by place as it was meant, from its own bytes and from a lent buffer that it is laid over.
-- Assumes nothing.
use Prim.Native.Nat.{ℕ, ◌<◌, ◌≤◌}
use mathlib.Core.Path.{◌≡◌, refl, sym, ap, subst, ◌∙◌}
use mathlib.Core.Bool.{true}
use mathlib.Core.List.{List, [], ◌++◌}
use native.Mathlib.Omega.{arith}
use lib.ListN.{length}
use Rattle.octets.specs.Octets.{number_at, octets, laid}
use Rattle.octets.proofs.Laid.{Stands, laid_stands, stands_first, stands_second}
use Rattle.octets.proofs.Numbers.{number_back}
use Rattle.strike.specs.Service.{DataSet, Result, fails, does}
use Rattle.rules.specs.Bounds.{command_room, data_room, most_room, report_room}
use Rattle.rules.specs.declared.Core.{Core}
use Rattle.rules.specs.declared.Command.{Command}
use Rattle.rules.specs.declared.Command.TheVariants.{Unreadable, Unknown, Known}
use Rattle.rules.specs.Commands.{number_in, understood}
use Rattle.rules.specs.declared.Note.{Note}
use Rattle.rules.specs.declared.Note.TheVariants.{NoNote, FilmsQueued, PictureAt, StoppedAt}
use Rattle.rules.specs.Responses.{Says, Reply}
use Rattle.rules.specs.Sound.{core_sound}
use Rattle.rules.specs.Checks.{decide}
use Rattle.rules.specs.Outcomes.{note_bytes, report_bytes}
use Rattle.promises.proofs.Decided.{reply_of}
use Rattle.promises.proofs.Notes.{NoteWithin, status_small, note_within}
use Rattle.promises.proofs.Packed.{from_start}
use Rattle.promises.proofs.ReadBack.{number_small, ResponseMeans}
use Rattle.promises.proofs.Replies.{carries_fits, AnsweredUnknown, AnsweredCommand, decide_answered}

-- the numbers of a note: its kind (0 none, 1 films queued, 2 a picture, 3 a reading that stopped), and three more
pub record NoteNumbers : Type 0 where
  pub kind : ℕ
  pub first : ℕ
  pub second : ℕ
  pub third : ℕ

-- how many films were queued; a picture's number, and the place and the length of its pixels; the refusal's number, place and depth
abbrev pub numbers_of : Note → NoteNumbers
numbers_of NoNote = record { kind = 0; first = 0; second = 0; third = 0 }
numbers_of (FilmsQueued n) = record { kind = 1; first = n; second = 0; third = 0 }
numbers_of (PictureAt n place size) = record { kind = 2; first = n; second = place; third = size }
numbers_of (StoppedAt stop) = record { kind = 3; first = stop.number; second = stop.place; third = stop.depth }

-- What the bytes of a report mean, read by place: status, length of command, length of data set and kind of note of 2 bytes, three numbers of 4.
pub record ReportMeans (s : List ℕ) (r : Reply) : Type 0 where
  pub status : number_at 2 s 0 ≡ r.status
  pub command : number_at 2 s 2 ≡ length r.command
  pub data_set : number_at 2 s 4 ≡ length r.data_set
  pub kind : number_at 2 s 6 ≡ (numbers_of r.note).kind
  pub first : number_at 4 s 8 ≡ (numbers_of r.note).first
  pub second : number_at 4 s 12 ≡ (numbers_of r.note).second
  pub third : number_at 4 s 16 ≡ (numbers_of r.note).third

-- The bytes, where the numbers fit their widths.

abbrev number_bytes : NoteNumbers → List ℕ
number_bytes n = octets 2 n.kind ++ (octets 4 n.first ++ (octets 4 n.second ++ octets 4 n.third))

note_bytes_lem : (note : Note) → note_bytes note ≡ number_bytes (numbers_of note)
unfolding octets
note_bytes_lem NoNote = refl
note_bytes_lem (FilmsQueued n) = refl
note_bytes_lem (PictureAt n place size) = refl
note_bytes_lem (StoppedAt stop) = refl

kind_small : (note : Note) → (numbers_of note).kind < 65536
kind_small NoNote = omega arith
kind_small (FilmsQueued n) = omega arith
kind_small (PictureAt n place size) = omega arith
kind_small (StoppedAt stop) = omega arith

-- a number of a note is of 4 bytes
abbrev pub NoteFits : Note → Type 0
NoteFits note = ((numbers_of note).first < 4294967296) × ((numbers_of note).second < 4294967296) × ((numbers_of note).third < 4294967296)

pub record ReportFits (r : Reply) : Type 0 where
  pub status : r.status < 65536
  pub command : length r.command < 65536
  pub data_set : length r.data_set < 65536
  pub note : NoteFits r.note

-- A report has 20 bytes.
pub report_length : (r : Reply) → length (report_bytes r) ≡ report_room
unfolding report_bytes octets
report_length r = rw (note_bytes_lem r.note)

-- Where its numbers fit their widths, a report is read as it was meant from whatever list begins with its bytes.
pub report_reads : (r : Reply) → ReportFits r → (s : List ℕ) → Stands s 0 (report_bytes r) → ReportMeans s r
unfolding report_bytes octets
report_reads r fits s h =
    let n = numbers_of r.note in
    let third = octets 4 n.third in
    let second = octets 4 n.second in
    let first = octets 4 n.first in
    let kind = octets 2 n.kind in
    let size = octets 2 (length r.data_set) in
    let command = octets 2 (length r.command) in
    let status = octets 2 r.status in
    let from0 : Stands s 0 (status ++ (command ++ (size ++ (kind ++ (first ++ (second ++ third)))))) =
    subst (λ (b : List ℕ). Stands s 0 (status ++ (command ++ (size ++ b)))) (note_bytes_lem r.note) h in
    let from2 : Stands s 2 (command ++ (size ++ (kind ++ (first ++ (second ++ third))))) = stands_second s 0 status _ from0 in
    let from4 : Stands s 4 (size ++ (kind ++ (first ++ (second ++ third)))) = stands_second s 2 command _ from2 in
    let from6 : Stands s 6 (kind ++ (first ++ (second ++ third))) = stands_second s 4 size _ from4 in
    let from8 : Stands s 8 (first ++ (second ++ third)) = stands_second s 6 kind _ from6 in
    let from12 : Stands s 12 (second ++ third) = stands_second s 8 first _ from8 in
    let from16 : Stands s 16 third = stands_second s 12 second third from12 in
    record {
      status = number_back 2 r.status s 0 fits.status (stands_first s 0 status _ from0);
      command = number_back 2 (length r.command) s 2 fits.command (stands_first s 2 command _ from2);
      data_set = number_back 2 (length r.data_set) s 4 fits.data_set (stands_first s 4 size _ from4);
      kind = number_back 2 n.kind s 6 (kind_small r.note) (stands_first s 6 kind _ from6);
      first = number_back 4 n.first s 8 fits.note.0 (stands_first s 8 first _ from8);
      second = number_back 4 n.second s 12 fits.note.1 (stands_first s 12 second third from12);
      third = number_back 4 n.third s 16 fits.note.2 from16;
    }

-- The reply to a request.

-- what a note tells of a data set that fits a message buffer fits its widths
note_fits : (bytes : ℕ) (note : Note) → bytes ≤ most_room → NoteWithin bytes note → NoteFits note
note_fits bytes NoNote h w = omega arith
note_fits bytes (FilmsQueued n) h w = omega arith
note_fits bytes (PictureAt n place size) h w = omega arith
note_fits bytes (StoppedAt stop) h w = omega arith

-- command and data set fit their buffers
abbrev pub LengthsFit : Reply → Type 0
LengthsFit r = (length r.command ≤ command_room) × (length r.data_set ≤ data_room)

unknown_lengths : (message field : ℕ) (x : Result Core Reply) → AnsweredUnknown message field x → LengthsFit (reply_of x)
unknown_lengths message field (fails p) h = (omega (arith, h.fits), omega (arith, ap length h.no_data_lem))
unknown_lengths message field (does k p) h = absurd h

command_lengths : (k : Core) (c : List ℕ) (d : DataSet) (o : Command) (x : Result Core Reply) → AnsweredCommand k c d o x → LengthsFit (reply_of x)
command_lengths k c d Unreadable x h = unknown_lengths 0 0 x h
command_lengths k c d (Unknown message field) x h = unknown_lengths message field x h
command_lengths k c d (Known r) x h = (omega (arith, h.fits), omega (arith, carries_fits h.carries))

pub lengths_fit : (k : Core) (c : List ℕ) (d : DataSet) → core_sound k ≡ true → LengthsFit (reply_of (decide k c d))
lengths_fit k c d sound = command_lengths k c d (understood c) (decide k c d) (decide_answered k c d sound)

-- The status in (0000,0900) of a response.

abbrev StatusBack : Reply → Type 0
StatusBack p = number_in p.command 0x0000_0900 ≡ p.status

status_back : (says : Says) (p : Reply) (status : ℕ) (b : List ℕ) → ResponseMeans p.command says status b → p.status ≡ status → p.status < 65536 → StatusBack p
status_back says p status b m e h = (number_small p.command 0x0000_0900 status (subst (λ (n : ℕ). n < 65536) e h) m.status_is).is ∙ sym e

status_told : (k : Core) (c : List ℕ) (d : DataSet) (o : Command) (x : Result Core Reply) → AnsweredCommand k c d o x → (reply_of x).status < 65536 → StatusBack (reply_of x)
status_told k c d Unreadable (fails p) a h = status_back _ p 0x0211 [] a.means a.status_is h
status_told k c d Unreadable (does after p) a h = absurd a
status_told k c d (Unknown message field) (fails p) a h = status_back _ p 0x0211 [] a.means a.status_is h
status_told k c d (Unknown message field) (does after p) a h = absurd a
status_told k c d (Known r) x a h = status_back _ (reply_of x) (reply_of x).status _ a.means refl h

-- The response shows the status that was decided.
pub status_shown_lem : (k : Core) (c : List ℕ) (d : DataSet) → core_sound k ≡ true → StatusBack (reply_of (decide k c d))
status_shown_lem k c d sound = status_told k c d (understood c) (decide k c d) (decide_answered k c d sound) (status_small k sound c d)

module _ (k : Core) (c : List ℕ) (d : DataSet) (sound : core_sound k ≡ true) (room : length d.bytes ≤ most_room) where
  -- the numbers of every report fit their widths
  pub report_fits : ReportFits (reply_of (decide k c d))
  report_fits =
      let lengths = lengths_fit k c d sound in
      record { status = status_small k sound c d; command = omega arith; data_set = omega arith; note = note_fits (length d.bytes) (reply_of (decide k c d)).note room (note_within k sound c d) }

  -- Whatever is replied to a request, its report is read from its bytes as it was meant.
  pub report_means : ReportMeans (report_bytes (reply_of (decide k c d))) (reply_of (decide k c d))
  report_means =
      let bytes = report_bytes (reply_of (decide k c d)) in
      report_reads (reply_of (decide k c d)) report_fits bytes (from_start bytes (length bytes) refl)

  -- So it is from a lent buffer of at least 20 bytes that it is laid over.
  pub report_means_laid : (b : List ℕ) → report_room ≤ length b → ReportMeans (laid b 0 (report_bytes (reply_of (decide k c d)))) (reply_of (decide k c d))
  report_means_laid b long =
      let r = reply_of (decide k c d) in
      report_reads r report_fits (laid b 0 (report_bytes r)) (laid_stands b 0 (report_bytes r) (omega (arith, report_length r)))
