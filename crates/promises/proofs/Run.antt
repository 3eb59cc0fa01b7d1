-- Demand 3 at work: a run of the book's own calls, whole and without four of its messages, computed.
-- Assumes nothing.
use mathlib.Core.Path.{◌≡◌, refl}
use mathlib.Core.Bool.{Bool}
use mathlib.Core.List.{List, [], ◌∷◌, map}
use Prim.Native.Nat.{ℕ}
use lib.Dec.{eqb, ltb}
use lib.ListN.{length}
use Rattle.choice.specs.Pick.{either}
use Rattle.strike.specs.Service.{Call, feed, aside}
use Rattle.strike.specs.Machine as machine
use Rattle.strike.specs.Machine.{Input, idle, in_data, Records, Answer}
use Rattle.strike.specs.Messages.{without, fate_of, history, answers, after}
use Rattle.strike.specs.Messages.{succeeded, failed, wasDropped, wasCutOff, calls_of}
use Rattle.rules.specs.Bounds.{entry_room}
use Rattle.rules.proofs.Book.{the_book}
use Rattle.rules.specs.declared.Core.{Core}
use Rattle.rules.specs.Responses.{Reply}
use Rattle.rules.specs.Calls.{Lengths, taking, handed, printing}
use Rattle.rules.proofs.Stage.{nothing_live}
use Rattle.elements.specs.Reader.{data_set}
use Rattle.promises.proofs.Fakes.{makes}
use Rattle.strike.proofs.Opened.{the_messages}

-- N-SET of session 1.2.3, whose data set follows
abbrev pub sets : List ℕ
sets =
    0x00 ∷ 0x00 ∷ 0x00 ∷ 0x58 ∷ 0x01 ∷ 0x03 ∷ 0x00 ∷ 0x00 ∷ 0x00 ∷ 0x00 ∷ 0x04 ∷ 0x00 ∷ 0x00 ∷ 0x00 ∷ 0x4A ∷ 0x00
    ∷ 0x00 ∷ 0x00 ∷ 0x00 ∷ 0x00 ∷ 0x03 ∷ 0x00 ∷ 0x16 ∷ 0x00 ∷ 0x00 ∷ 0x00 ∷ 0x31 ∷ 0x2E ∷ 0x32 ∷ 0x2E ∷ 0x38 ∷ 0x34
    ∷ 0x30 ∷ 0x2E ∷ 0x31 ∷ 0x30 ∷ 0x30 ∷ 0x30 ∷ 0x38 ∷ 0x2E ∷ 0x35 ∷ 0x2E ∷ 0x31 ∷ 0x2E ∷ 0x31 ∷ 0x2E ∷ 0x31 ∷ 0x00
    ∷ 0x00 ∷ 0x00 ∷ 0x00 ∷ 0x01 ∷ 0x02 ∷ 0x00 ∷ 0x00 ∷ 0x00 ∷ 0x20 ∷ 0x01 ∷ 0x00 ∷ 0x00 ∷ 0x10 ∷ 0x01 ∷ 0x02 ∷ 0x00
    ∷ 0x00 ∷ 0x00 ∷ 0x01 ∷ 0x00 ∷ 0x00 ∷ 0x00 ∷ 0x00 ∷ 0x08 ∷ 0x02 ∷ 0x00 ∷ 0x00 ∷ 0x00 ∷ 0x01 ∷ 0x00 ∷ 0x00 ∷ 0x00
    ∷ 0x01 ∷ 0x10 ∷ 0x06 ∷ 0x00 ∷ 0x00 ∷ 0x00 ∷ 0x31 ∷ 0x2E ∷ 0x32 ∷ 0x2E ∷ 0x33 ∷ 0x00 ∷ []

-- four bytes of data, not the last
abbrev pub some_data : List ℕ
some_data =
    0x00 ∷ 0x00 ∷ 0x00 ∷ 0x06 ∷ 0x01 ∷ 0x00 ∷ 0x00 ∷ 0x20 ∷ 0x10 ∷ 0x00 ∷ []

-- a command that is not readable
abbrev pub nonsense : List ℕ
nonsense =
    0x00 ∷ 0x00 ∷ 0x00 ∷ 0x04 ∷ 0x01 ∷ 0x03 ∷ 0x00 ∷ 0x00 ∷ []

-- data that no message waits for
abbrev pub stray : List ℕ
stray =
    0x00 ∷ 0x00 ∷ 0x00 ∷ 0x02 ∷ 0x01 ∷ 0x02 ∷ []

-- buffers just long enough, and with a command buffer that is too short
abbrev lent : ℕ → Lengths
lent command = record { message = 4096; command = command; data_set = 8192; report = 20 }

-- Six messages, with a take and a refused feed among them. Message 2 fails; 3 is cut off by 4, which is dropped; 5 is cut off by 6, which
-- fails.
abbrev calls : List (Call handed)
calls =
    feed makes (lent 256)
    ∷ feed makes (lent 256)
    ∷ aside (taking entry_room)
    ∷ feed sets (lent 256)
    ∷ feed some_data (lent 255)
    ∷ feed some_data (lent 256)
    ∷ feed nonsense (lent 256)
    ∷ feed stray (lent 256)
    ∷ feed sets (lent 256)
    ∷ feed makes (lent 256)
    ∷ []

abbrev before : Records Core
before = record { core = nothing_live; input = idle }

-- messages 2, 4, 5 and 6 are struck; 3, which 4 had cut off, is kept
abbrev struck_out : ℕ → Bool
struck_out n = either (eqb n 2) (ltb 3 n)

abbrev left : List (Call handed)
left = calls_of (without struck_out (history printing before calls))

-- an answer by its number, or a response by its status
abbrev told : Answer Reply (List ℕ) → ℕ
told (machine.refused n) = n
told machine.done = 0
told (machine.told t) = 0
told machine.ignored = 18
told machine.wait = 16
told machine.dropped = 17
told (machine.failure r d) = r.status
told (machine.success r d) = r.status

-- how many bytes of data wait in a message
abbrev waiting : Input → ℕ
waiting machine.idle = 0
waiting (machine.in_command c) = 0
waiting machine.skipping_command = 0
waiting (in_data c d) = length d
waiting (machine.skipping_data c) = 0

pub run_at_work :
    (map told (answers printing before calls) ≡ 0x0000 ∷ 0x0111 ∷ 6 ∷ 16 ∷ 2 ∷ 16 ∷ 17 ∷ 18 ∷ 16 ∷ 0x0111 ∷ [])
    × (map (λ (n : ℕ). fate_of n (history printing before calls)) (1 ∷ 2 ∷ 3 ∷ 4 ∷ 5 ∷ 6 ∷ []) ≡ succeeded ∷ failed ∷ wasCutOff ∷ wasDropped ∷ wasCutOff ∷ failed ∷ [])
    × (map told (answers printing before left) ≡ 0x0000 ∷ 6 ∷ 16 ∷ 2 ∷ 16 ∷ [])
    × (waiting (after printing before calls).input ≡ 0)
    × (waiting (after printing before left).input ≡ 4)
unfolding the_book the_messages
run_at_work = (refl, refl, refl, refl, refl)
