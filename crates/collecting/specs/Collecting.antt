-- Chapter 4 of the rules (docs/RULES.md), as the code holds it: the states by number, and what a fragment comes to as a value.
use Rattle.std.specs.Prelude.{ℕ, ◌+◌, ◌≤◌, ◌/◌, ◌%◌, ◌≡◌, Bool, false, List, [], eqb, leb, length, take, drop}
use Rattle.choice.specs.Pick.{pick}
use Rattle.strike.specs.declared.Reading.{Reading}
use Rattle.strike.specs.declared.Reading.TheVariants.{NotReadable, Alone, WithData}
use Rattle.strike.specs.declared.Came.{Came}
use Rattle.strike.specs.declared.Came.TheVariants.{Absent}
use Rattle.strike.specs.Machine as machine
use Rattle.strike.specs.Machine.{command_limit, idle, in_data, skipping_data, Fragment, command, dataset, control_byte, Outcome, ignores, waits, drops, asks, skipping_command, in_command, skips, gathers, reads}
use Rattle.octets.specs.Octets.{laid}
use Rattle.rules.specs.Lists.{filled_to}
use Rattle.rules.specs.declared.Input.{Input}
use Rattle.fields.specs.Format.{write}
use Rattle.rules.specs.Calls.{reading}
use Rattle.rules.specs.Layout.{input_format, core_size}
use Rattle.rules.specs.Records.{command_held}
use Rattle.rules.specs.Outcomes.{held, input_in, input_held}
use Rattle.records.specs.Places.{held_in}
use Rattle.collecting.specs.declared.Collecting.{Collecting}
use Rattle.collecting.specs.declared.Collecting.TheVariants.{Idle, InCommand, SkippingCommand, InData, SkippingData}
use Rattle.collecting.specs.declared.Answer.{Answer}
use Rattle.collecting.specs.declared.Answer.TheVariants.{Ignored, Wait, Dropped, Asks}

-- what a fragment comes to, and what is held afterwards; of a request its command, and how many bytes of data there are
pub record Collected : Type 0 where
  pub answer : Answer
  pub input : Input

-- the command is within its 1,024 bytes, and the rest of them are zeros
abbrev pub Filled : Input → Type 0
Filled i = (i.used ≤ command_limit) × (i.command ≡ filled_to command_limit 0 (command_held i))

-- the records' bytes with another input, which is read there again
pub record Put (i : Input) (before after : List ℕ) : Type 0 where
  pub bytes : after ≡ write input_format i before core_size
  pub back : held_in after ≡ i
  pub filled : Filled i

-- the answer, and the records' bytes before and afterwards
pub record Met (x : Collected) (answer : Answer) (before after : List ℕ) : Type 0 where
  pub told : answer ≡ x.answer
  pub put : Put x.input before after

-- the state that a number of the records stands for, and its number
unfoldable pub state_of : ℕ → Collecting
state_of n = pick (eqb n 1) InCommand (pick (eqb n 2) SkippingCommand (pick (eqb n 3) InData (pick (eqb n 4) SkippingData Idle)))

abbrev pub number_of : Collecting → ℕ
number_of Idle = 0
number_of InCommand = 1
number_of SkippingCommand = 2
number_of InData = 3
number_of SkippingData = 4

-- the next state after a command fragment, that fits its buffer or not; a whole command is in data until it is read
abbrev pub gathers_to : Bool → Bool → Collecting
gathers_to fits last = pick fits (pick last InData InCommand) (pick last Idle SkippingCommand)

unfoldable pub command_next : Collecting → Bool → Bool → Collecting
command_next Idle fits last = gathers_to fits last
command_next InCommand fits last = gathers_to fits last
command_next SkippingCommand fits last = gathers_to false last
command_next InData fits last = gathers_to fits last
command_next SkippingData fits last = gathers_to fits last

-- the next state after a data fragment
abbrev pub stores_to : Bool → Bool → Collecting
stores_to fits last = pick last Idle (pick fits InData SkippingData)

unfoldable pub data_next : Collecting → Bool → Bool → Collecting
data_next Idle fits last = Idle
data_next InCommand fits last = Idle
data_next SkippingCommand fits last = Idle
data_next InData fits last = stores_to fits last
data_next SkippingData fits last = stores_to false last

-- the command that a command fragment is appended to: a new message starts with none
abbrev pub command_before : Input → List ℕ
command_before i = pick (eqb i.phase 1) (command_held i) []

-- what is held of a message whose command is whole
abbrev pub holds : Answer → Collecting → Input → ℕ → Collected
holds answer state i got = record { answer = answer; input = record { phase = number_of state; used = i.used; got = got; command = i.command } }

-- the same, of a command's bytes
abbrev pub kept : Answer → Collecting → List ℕ → ℕ → Collected
kept answer state c got = record { answer = answer; input = held (number_of state) c got }

-- nothing is held
abbrev pub bare : Answer → Collecting → Collected
bare answer state = kept answer state [] 0

-- the value of an outcome
unfoldable pub collected_of : Outcome → Collected
collected_of ignores = bare Ignored Idle
collected_of (waits i) = record { answer = Wait; input = input_held i }
collected_of drops = bare Dropped Idle
collected_of (asks c d) = kept (Asks d.came) Idle c (length d.bytes)

-- the outcome that a value means, with the message buffer afterwards
abbrev pub meant_by : Answer → Input → List ℕ → Outcome
meant_by Ignored i message = ignores
meant_by Wait i message = waits (input_in i message)
meant_by Dropped i message = drops
meant_by (Asks came) i message = asks (command_held i) (record { came = came; bytes = take i.got message })

unfoldable pub outcome_meant : Collected → List ℕ → Outcome
outcome_meant r message = meant_by r.answer r.input message

-- the answer to data, whole or too long
abbrev pub data_answer : Bool → Came → Answer
data_answer last came = pick last (Asks came) Wait

-- the message buffer after data in data
abbrev pub stored_in : ℕ → List ℕ → List ℕ → List ℕ
stored_in got message bytes = pick (leb (got + length bytes) (length message)) (laid message got bytes) message

-- what a whole command comes to
abbrev pub read_to : Reading → List ℕ → Collected
read_to NotReadable c = bare Dropped Idle
read_to Alone c = kept (Asks Absent) Idle c 0
read_to WithData c = kept Wait InData c 0

abbrev pub waits_with : Input → Collected
waits_with i = record { answer = Wait; input = i }

-- the fragment behind a header that is not wrong
abbrev pub of_command : List ℕ → Bool
of_command bytes = eqb (control_byte bytes % 2) 1

abbrev pub is_last : List ℕ → Bool
is_last bytes = eqb (control_byte bytes / 2 % 2) 1

abbrev pub fragment_of : List ℕ → Fragment
fragment_of bytes = pick (of_command bytes) command dataset (is_last bytes) (drop 6 bytes)

-- the input, by its state
abbrev pub input_by : Collecting → Input → List ℕ → machine.Input
input_by Idle i message = idle
input_by InCommand i message = in_command (command_held i)
input_by SkippingCommand i message = skipping_command
input_by InData i message = in_data (command_held i) (take i.got message)
input_by SkippingData i message = skipping_data (command_held i)

-- the outcome of a command fragment, by the next state
abbrev pub by_next : Collecting → List ℕ → Outcome
by_next Idle c = drops
by_next InCommand c = waits (in_command c)
by_next SkippingCommand c = waits skipping_command
by_next InData c = reads (reading c) c
by_next SkippingData c = drops

-- the outcome of a command fragment, by the state it is met in
unfoldable pub gathered_in : Collecting → List ℕ → Bool → Outcome
gathered_in Idle c last = gathers reading c last
gathered_in InCommand c last = gathers reading c last
gathered_in SkippingCommand c last = skips last
gathered_in InData c last = gathers reading c last
gathered_in SkippingData c last = gathers reading c last
