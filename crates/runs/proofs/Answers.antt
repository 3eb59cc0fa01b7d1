-- What a call shows of the machine's answer: its number, and what it writes over the buffers that are lent for it. That it fits them.
-- Assumes nothing.
use mathlib.Core.Path.{◌≡◌}
use mathlib.Core.Bool.{true, false}
use mathlib.Core.List.{List, []}
use Prim.Native.Nat.{ℕ, ◌≤◌, ◌<◌}
use lib.ListN.{length}
use Rattle.octets.specs.Octets.{laid}
use Rattle.strike.specs.Service.{DataSet}
use Rattle.strike.specs.Machine.{Answer, refused, done, told, ignored, wait, dropped, failure, success}
use Rattle.rules.specs.Bounds.{report_room}
use Rattle.rules.specs.Commands.{number_in}
use Rattle.rules.specs.Responses.{is_failure, Reply}
use Rattle.rules.specs.Outcomes.{report_bytes, number_of}
use Rattle.promises.proofs.Notes.{NoteWithin}
use Rattle.promises.proofs.ReportBack.{ReportFits}
use Rattle.runs.specs.Host.{HostCall, Buffers, no_buffers, lent_by, Shown}

abbrev pub reply_written : Reply → Buffers
reply_written r = record { command = r.command; data_set = r.data_set; report = report_bytes r; entry = [] }

abbrev pub written_by : Answer Reply (List ℕ) → Buffers
written_by (refused n) = no_buffers
written_by done = no_buffers
written_by (told entry) = record { command = []; data_set = []; report = []; entry = entry }
written_by ignored = no_buffers
written_by wait = no_buffers
written_by dropped = no_buffers
written_by (failure r d) = reply_written r
written_by (success r d) = reply_written r

abbrev pub over : Buffers → Buffers → Buffers
over b w = record {
  command = laid b.command 0 w.command;
  data_set = laid b.data_set 0 w.data_set;
  report = laid b.report 0 w.report;
  entry = laid b.entry 0 w.entry;
}

abbrev pub shown_of : HostCall → Answer Reply (List ℕ) → Shown
shown_of h a = record { number = number_of a; buffers = over (lent_by h) (written_by a) }

-- A reply fits the buffers that are lent for it, its response and its report are read back, and the pixels of its note lie in the data set.
pub record Responds (b : Buffers) (r : Reply) (d : DataSet) : Type 0 where
  pub command : length r.command ≤ length b.command
  pub data_set : length r.data_set ≤ length b.data_set
  pub report : report_room ≤ length b.report
  pub fits : ReportFits r
  pub status : number_in r.command 0x0000_0900 ≡ r.status
  pub note : NoteWithin (length d.bytes) r.note

-- an answer fits what is lent, and says by its number and status what it is
abbrev pub Proper : Buffers → Answer Reply (List ℕ) → Type 0
Proper b (refused n) = n < 16
Proper b done = Unit {0}
Proper b (told entry) = length entry ≤ length b.entry
Proper b ignored = Unit {0}
Proper b wait = Unit {0}
Proper b dropped = Unit {0}
Proper b (failure r d) = Responds b r d × (is_failure r.status ≡ true)
Proper b (success r d) = Responds b r d × (is_failure r.status ≡ false)
