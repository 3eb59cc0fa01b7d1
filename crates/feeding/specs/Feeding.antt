-- What a feed writes, in the parts that it is written in.
use Rattle.std.specs.Prelude.{ℕ, Bool, List, [], ◌++◌}
use Rattle.std.proofs.Math.Option.{Option}
use Rattle.choice.specs.Pick.{pick}
use Rattle.octets.specs.Octets.{octets, laid}
use Rattle.headers.specs.declared.Syntax.TheVariants.{Implicit}
use Rattle.writing.specs.Bytes.{written}
use Rattle.strike.specs.Machine.{idle}
use Rattle.rules.specs.declared.Core.{Core}
use Rattle.rules.specs.declared.Input.{Input}
use Rattle.rules.specs.declared.Request.{Request}
use Rattle.rules.specs.Layout.{unpack, pack}
use Rattle.rules.specs.declared.Note.{Note}
use Rattle.rules.specs.declared.Note.TheVariants.{NoNote, FilmsQueued, PictureAt, StoppedAt}
use Rattle.responses.specs.declared.NoteNumbers.{NoteNumbers}
use Rattle.rules.specs.Responses.{Reply, reply, response_tree}
use Rattle.rules.specs.Checks.{says, says_unknown}
use Rattle.rules.specs.Outcomes as outcomes
use Rattle.rules.specs.Outcomes.{input_held, note_bytes}

-- the bytes of a response's command set
abbrev pub command_bytes : List ℕ → Request → Option (List ℕ) → ℕ → List ℕ → List ℕ
command_bytes c r instance status d = written Implicit (response_tree (says c r instance) status d)

-- a note as the report has it
abbrev pub numbers_of : Note → NoteNumbers
numbers_of NoNote = record { kind = 0; first = 0; second = 0; third = 0 }
numbers_of (FilmsQueued films) = record { kind = 1; first = films; second = 0; third = 0 }
numbers_of (PictureAt number place extent) = record { kind = 2; first = number; second = place; third = extent }
numbers_of (StoppedAt stop) = record { kind = 3; first = stop.number; second = stop.place; third = stop.depth }

-- the report, from the lengths of command and data set
unfoldable pub report_of : ℕ → ℕ → ℕ → Note → List ℕ
report_of status command size note = octets 2 status ++ (octets 2 command ++ (octets 2 size ++ note_bytes note))

-- the response to an unknown field, check 1
abbrev pub unknown_reply : ℕ → ℕ → Reply
unknown_reply message field = reply (says_unknown message field) 0x0211 [] NoNote

-- the records' bytes with another input alone
unfoldable pub input_written : Input → List ℕ → List ℕ
input_written i b = laid b 0 (pack (record { core = (unpack b).core; input = i }))

-- the records' bytes after a request: what was done is kept, a failure leaves the core
unfoldable pub settled : Bool → Core → List ℕ → List ℕ
settled done k b = pick done (outcomes.written (record { core = k; input = idle }) b) (input_written (input_held idle) b)
