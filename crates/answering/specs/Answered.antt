-- What a decided request leaves in the buffers lent to a feed, and the number that a feed returns.
use Rattle.std.specs.Prelude.{ℕ, ◌≤◌, ◌≡◌, List, length, Result, Ok, Err}
use Rattle.octets.specs.Octets.{laid}
use Rattle.strike.specs.Service as service
use Rattle.strike.specs.Service.{fails, does}
use Rattle.strike.specs.Machine.{idle}
use Rattle.rules.specs.declared.Core.{Core}
use Rattle.rules.specs.Layout.{records_size}
use Rattle.rules.specs.Responses.{Reply}
use Rattle.rules.specs.declared.Refusal.{Refusal}
use Rattle.rules.specs.Failures.{number_of}
use Rattle.rules.specs.Outcomes.{input_held, written, report_bytes}
use Rattle.feeding.specs.Feeding.{unknown_reply, input_written}
use Rattle.answering.specs.declared.Fed.{Fed}
use Rattle.answering.specs.declared.Fed.TheVariants.{Wait, Dropped, Ignored, Response}

abbrev pub reply_in : service.Result Core Reply → Reply
reply_in (fails r) = r
reply_in (does k r) = r

-- the records' bytes afterwards: a failure changes no record
abbrev pub settled_by : service.Result Core Reply → List ℕ → List ℕ
settled_by (fails r) b = input_written (input_held idle) b
settled_by (does k r) b = written (record { core = k; input = idle }) b

abbrev pub unknown_result : ℕ → ℕ → service.Result Core Reply
unknown_result message field = fails (unknown_reply message field)

-- the least lengths
abbrev pub RoomFor : List ℕ → List ℕ → List ℕ → List ℕ → Type 0
RoomFor records command data_set report = (records_size ≤ length records) × (256 ≤ length command) × (8192 ≤ length data_set) × (20 ≤ length report)

-- what a result leaves, each buffer before and afterwards
abbrev pub Leaves : service.Result Core Reply → List ℕ → List ℕ → List ℕ → List ℕ → List ℕ → List ℕ → List ℕ → List ℕ → Type 0
Leaves x b o s command d data_set t report = (o ≡ settled_by x b) × (command ≡ laid s 0 (reply_in x).command) × (data_set ≡ laid d 0 (reply_in x).data_set) × (report ≡ laid t 0 (report_bytes (reply_in x)))

-- the number that a feed returns, by what it came to
abbrev pub number_fed : Fed → ℕ
number_fed Wait = 16
number_fed Dropped = 17
number_fed Ignored = 18
number_fed Response = 19

-- and by what it was refused for
abbrev pub number_returned : Result Fed Refusal → ℕ
number_returned (Ok fed) = number_fed fed
number_returned (Err refusal) = number_of refusal
