-- What is written to lent buffers: reports, an entry, numbers returned, and the input as it is held; whole, and read back.
-- Assumes nothing.
use mathlib.Core.Path.{refl}
use mathlib.Core.List.{List, [], ◌∷◌, ◌++◌, map}
use Prim.Native.Nat.{ℕ, ◌+◌, ◌*◌}
use lib.ListN.{take, drop, replicate}
use Rattle.octets.specs.Octets.{number_at}
use Rattle.strike.specs.Service.{no_data}
use Rattle.strike.specs.Machine as machine
use Rattle.strike.specs.Machine.{Answer, Step, idle, in_command, skipping_command, in_data, skipping_data}
use Rattle.rules.specs.declared.Core.{Core}
use Rattle.rules.specs.declared.Input.{Input}
use Rattle.rules.specs.declared.Entry.{Entry}
use Rattle.rules.specs.Text.{chars}
use Rattle.rules.specs.Lists.{from}
use Rattle.rules.specs.Records.{picture, made_name}
use Rattle.rules.specs.declared.Note.{Note}
use Rattle.rules.specs.declared.Note.TheVariants.{NoNote, FilmsQueued, PictureAt, StoppedAt}
use Rattle.rules.specs.Responses.{Reply}
use Rattle.rules.specs.Calls.{entry_bytes}
use Rattle.rules.specs.Outcomes.{Lent, Feeding, report_bytes, number_of, input_in, input_held, fed_to, Taking, nothing_taken, took, or_unchanged}
use Rattle.rules.proofs.Book.{the_book}
use Rattle.rules.proofs.Stage.{nothing_live, entry_of, Example, gives, AllHold}

-- a reply with 98 bytes of command and 300 of data set
abbrev reply_with : Note → Reply
reply_with note = record { status = 0xB602; command = replicate 98 1; data_set = replicate 300 2; note = note }

abbrev noted : Note
noted = PictureAt 0x01020304 0x05060708 0x090A0B0C

-- pictures 1 to 36, ticket 4660, copies 99
abbrev entry : Entry
entry = entry_of (map picture (from 1 36)) 0x1234 99 (made_name 100)

abbrev entry_written : List ℕ
entry_written = entry_bytes nothing_live.numbers entry

abbrev written : List Example
written =
    -- "status, lengths of command and data set, and a note: none, how many films were queued, or a picture's number with place and length"
    gives (report_bytes (reply_with NoNote)) (0x02 ∷ 0xB6 ∷ 98 ∷ 0 ∷ 44 ∷ 1 ∷ 0 ∷ 0 ∷ replicate 12 0)
    ∷ gives (report_bytes (reply_with (FilmsQueued 0x01020304))) (0x02 ∷ 0xB6 ∷ 98 ∷ 0 ∷ 44 ∷ 1 ∷ 1 ∷ 0 ∷ 4 ∷ 3 ∷ 2 ∷ 1 ∷ replicate 8 0)
    ∷ gives (report_bytes (reply_with noted)) (0x02 ∷ 0xB6 ∷ 98 ∷ 0 ∷ 44 ∷ 1 ∷ 2 ∷ 0 ∷ 4 ∷ 3 ∷ 2 ∷ 1 ∷ 8 ∷ 7 ∷ 6 ∷ 5 ∷ 12 ∷ 11 ∷ 10 ∷ 9 ∷ [])
    -- R-4: or where the reading stopped: refusal, place, depth
    ∷ gives (report_bytes (reply_with (StoppedAt (record { number = 7; place = 0x01020304; depth = 4 })))) (0x02 ∷ 0xB6 ∷ 98 ∷ 0 ∷ 44 ∷ 1 ∷ 3 ∷ 0 ∷ 7 ∷ 0 ∷ 0 ∷ 0 ∷ 4 ∷ 3 ∷ 2 ∷ 1 ∷ 4 ∷ 0 ∷ 0 ∷ 0 ∷ [])
    -- field by field
    ∷ gives (map (number_at 2 (report_bytes (reply_with noted))) (0 ∷ 2 ∷ 4 ∷ 6 ∷ []) ++ map (number_at 4 (report_bytes (reply_with noted))) (8 ∷ 12 ∷ 16 ∷ [])) (0xB602 ∷ 98 ∷ 300 ∷ 2 ∷ 0x01020304 ∷ 0x05060708 ∷ 0x090A0B0C ∷ [])
    -- "36 pictures of 4, ticket and copies of 2, little endian, the UID zero-filled to 64"
    ∷ gives (take 12 entry_written) (1 ∷ 0 ∷ 0 ∷ 0 ∷ 2 ∷ 0 ∷ 0 ∷ 0 ∷ 3 ∷ 0 ∷ 0 ∷ 0 ∷ [])
    ∷ gives (drop (35 * 4) entry_written) (36 ∷ 0 ∷ 0 ∷ 0 ∷ 0x34 ∷ 0x12 ∷ 99 ∷ 0 ∷ (chars "1.9.7.100" ++ replicate 55 0))
    ∷ gives (number_at 4 entry_written 0 ∷ number_at 4 entry_written 4 ∷ number_at 4 entry_written (35 * 4) ∷ number_at 2 entry_written (36 * 4) ∷ number_at 2 entry_written (36 * 4 + 2) ∷ []) (1 ∷ 2 ∷ 36 ∷ 0x1234 ∷ 99 ∷ [])
    -- rule 8.2: the number of each answer
    ∷ gives (map number_of (machine.refused 5 ∷ machine.done ∷ machine.told [] ∷ machine.wait ∷ machine.dropped ∷ machine.ignored ∷ machine.failure (reply_with NoNote) no_data ∷ machine.success (reply_with NoNote) no_data ∷ [])) (5 ∷ 0 ∷ 0 ∷ 16 ∷ 17 ∷ 18 ∷ 19 ∷ 19 ∷ [])
    ∷ []

pub written_hold : AllHold written
unfolding the_book
written_hold = (refl, (refl, (refl, (refl, (refl, (refl, (refl, (refl, (refl, tt)))))))))

-- The input: phase, bytes of command and of data, the first bytes of the command; and back.

abbrev held_numbers : Input → List ℕ
held_numbers i = i.phase ∷ i.used ∷ i.got ∷ take 3 i.command

abbrev input_numbers : machine.Input → List ℕ
input_numbers idle = 0 ∷ []
input_numbers (in_command c) = 1 ∷ c
input_numbers skipping_command = 2 ∷ []
input_numbers (in_data c d) = 3 ∷ (c ++ d)
input_numbers (skipping_data c) = 4 ∷ c

abbrev input_at : ℕ → List ℕ
input_at phase = input_numbers (input_in (record { phase = phase; used = 2; got = 1; command = 5 ∷ 6 ∷ 0 ∷ [] }) (7 ∷ 8 ∷ []))

abbrev inputs : List Example
inputs =
    gives (held_numbers (input_held idle) ++ held_numbers (input_held skipping_command)) (0 ∷ 0 ∷ 0 ∷ 0 ∷ 0 ∷ 0 ∷ 2 ∷ 0 ∷ 0 ∷ 0 ∷ 0 ∷ 0 ∷ [])
    ∷ gives (held_numbers (input_held (in_command (5 ∷ 6 ∷ []))) ++ (held_numbers (input_held (in_data (5 ∷ 6 ∷ []) (7 ∷ []))) ++ held_numbers (input_held (skipping_data (5 ∷ 6 ∷ []))))) (1 ∷ 2 ∷ 0 ∷ 5 ∷ 6 ∷ 0 ∷ 3 ∷ 2 ∷ 1 ∷ 5 ∷ 6 ∷ 0 ∷ 4 ∷ 2 ∷ 0 ∷ 5 ∷ 6 ∷ 0 ∷ [])
    ∷ gives (input_at 0 ++ (input_at 1 ++ (input_at 2 ++ (input_at 3 ++ input_at 4)))) (0 ∷ 1 ∷ 5 ∷ 6 ∷ 2 ∷ 3 ∷ 5 ∷ 6 ∷ 7 ∷ 4 ∷ 5 ∷ 6 ∷ [])
    ∷ []

pub inputs_hold : AllHold inputs
unfolding the_book
inputs_hold = (refl, (refl, (refl, tt)))

-- Lent buffers, by what a call answers: a response lays its bytes over the first ones, all else stays.

abbrev lent : Lent
lent = record { records = 1 ∷ []; message = 2 ∷ []; command = replicate 99 3; data_set = replicate 301 4; report = replicate 21 5 }

abbrev leaving : Answer Reply (List ℕ) → Step Core Reply (List ℕ)
leaving answer = record { records = record { core = nothing_live; input = idle }; answer = answer }

abbrev fed_with : Answer Reply (List ℕ) → Feeding
fed_with answer = fed_to lent (6 ∷ []) (leaving answer)

-- the number, the message buffer, and the last bytes of the answer buffers
abbrev ends : Feeding → List ℕ
ends f = f.number ∷ (f.message ++ (drop 97 f.command ++ (drop 299 f.data_set ++ drop 19 f.report)))

abbrev took_all : Taking → List ℕ
took_all t = t.number ∷ t.entry

abbrev buffers : List Example
buffers =
    gives (ends (fed_with (machine.failure (reply_with noted) no_data))) (19 ∷ 6 ∷ 1 ∷ 3 ∷ 2 ∷ 4 ∷ 9 ∷ 5 ∷ [])
    ∷ gives (ends (fed_with (machine.success (reply_with noted) no_data))) (19 ∷ 6 ∷ 1 ∷ 3 ∷ 2 ∷ 4 ∷ 9 ∷ 5 ∷ [])
    -- any other answer writes to none of them, and a refusal but 5 changes nothing
    ∷ gives (ends (fed_with machine.wait) ++ (ends (fed_with machine.dropped) ++ ends (fed_with machine.ignored))) (16 ∷ 6 ∷ 3 ∷ 3 ∷ 4 ∷ 4 ∷ 5 ∷ 5 ∷ 17 ∷ 6 ∷ 3 ∷ 3 ∷ 4 ∷ 4 ∷ 5 ∷ 5 ∷ 18 ∷ 6 ∷ 3 ∷ 3 ∷ 4 ∷ 4 ∷ 5 ∷ 5 ∷ [])
    ∷ gives (ends (fed_with (machine.refused 5)) ++ (ends (fed_with (machine.refused 4)) ++ (fed_with (machine.refused 4)).records)) (5 ∷ 6 ∷ 3 ∷ 3 ∷ 4 ∷ 4 ∷ 5 ∷ 5 ∷ 4 ∷ 2 ∷ 3 ∷ 3 ∷ 4 ∷ 4 ∷ 5 ∷ 5 ∷ 1 ∷ [])
    ∷ gives (took_all (took (1 ∷ []) (2 ∷ 2 ∷ 2 ∷ []) (nothing_live, 7 ∷ 8 ∷ [])) ++ took_all (nothing_taken (1 ∷ []) (2 ∷ 2 ∷ 2 ∷ []) 6)) (0 ∷ 7 ∷ 8 ∷ 2 ∷ 6 ∷ 2 ∷ 2 ∷ 2 ∷ [])
    ∷ gives ((or_unchanged (1 ∷ []) (leaving machine.done)).number ∷ (or_unchanged (1 ∷ []) (leaving (machine.refused 3))).number ∷ (or_unchanged (1 ∷ []) (leaving (machine.refused 3))).records) (0 ∷ 3 ∷ 1 ∷ [])
    ∷ []

pub buffers_hold : AllHold buffers
unfolding the_book
buffers_hold = (refl, (refl, (refl, (refl, (refl, (refl, tt))))))
