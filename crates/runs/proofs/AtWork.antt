-- Demand 3 over the bytes at work: a run of the host's calls from bytes that are no records, whole and without four of its messages, with
-- other bytes in every buffer of the second run, and the numbers that both show.
-- Assumes nothing.
use mathlib.Core.Path.{◌≡◌, refl, sym, ap, ap₂, ◌∙◌}
use mathlib.Core.Bool.{Bool, true, false}
use mathlib.Core.List.{List, [], ◌∷◌, map}
use Prim.Native.Nat.{ℕ}
use native.Mathlib.Omega.{arith}
use borrow.Author.Tests.{ltb-true}
use lib.Dec.{eqb, ltb}
use lib.ListN.{length, replicate, length-replicate}
use Rattle.choice.specs.Pick.{pick, both, either}
use Rattle.choice.proofs.Picks.{both_true}
use Rattle.strike.specs.Service as service
use Rattle.strike.specs.Service.{Call}
use Rattle.strike.specs.Machine.{Answer, Records, idle}
use Rattle.octets.specs.Octets.{Bytes}
use Rattle.rules.specs.Calls as book
use Rattle.rules.specs.Calls.{Lengths, handed}
use Rattle.rules.specs.Outcomes.{number_of, opens}
use Rattle.rules.proofs.Book.{the_book}
use Rattle.promises.proofs.ListLaws.{each_or, each_told, each_replicate}
use Rattle.promises.proofs.Good.{Byte}
use Rattle.promises.proofs.Fakes.{makes}
use Rattle.promises.proofs.Run.{sets, some_data, nonsense, stray}
use Rattle.runs.specs.Host.{Kept, HostCall, starting, opening, feeding, closing, taking, start_handed, open_handed, call_of, Shown}
use Rattle.runs.specs.CallContracts.{by_contract, Made, associated}
use Rattle.rules.specs.Bounds.{entry_room}
use Rattle.rules.specs.Layout.{records_size}
use Rattle.runs.specs.Runs.{Store, useless, usable, store_check, over_bytes, Ran, calls_read, events_of, MayStrike, left_of}
use Rattle.runs.proofs.Does.{does, shows, does_met}
use Rattle.runs.proofs.Stored.{useless_view}
use Rattle.runs.proofs.Right.{feed_fixed, does_bytes}
use Rattle.runs.proofs.Ran.{AllShown, run_shown}
use Rattle.runs.proofs.Same.{fate_shown_lem}
use Rattle.runs.proofs.StrikeOut.{events_shown}
use Rattle.rules.specs.Lists.{every}
use Rattle.rules.specs.Responses.{Reply}
use Rattle.strike.specs.Messages.{Event, strikeable, fate_of, history, answers}
use Rattle.strike.proofs.Opened.{the_messages}

-- Calls made one after the other, with the buffers handed back.

unfoldable pub made_from : Kept → List HostCall → List Made
made_from k [] = []
made_from k (h ∷ hs) = record { lent = k; call = h; left = does k h; shown = shows k h } ∷ made_from (does k h) hs

pub made_ran : (k : Kept) (hs : List HostCall) → Ran by_contract k (made_from k hs)
unfolding Ran made_from
made_ran k [] = tt
made_ran k (h ∷ hs) = (record { records = refl; message = λ e. refl }, does_met k h, made_ran (does k h) hs)

-- Message buffers of one length in the whole run, so that the calls are read without making them.

abbrev roomed : ℕ → List ℕ → List ℕ → List ℕ → Lengths
roomed room command data_set report = record { message = room; command = length command; data_set = length data_set; report = length report }

abbrev call_in : ℕ → HostCall → Call handed
call_in room (starting root serial picture) = service.start (start_handed root serial picture)
call_in room (opening message context syntax) = service.opening (open_handed context syntax (length message))
call_in room (feeding fragment bytes command data_set report) = service.feed fragment (roomed room command data_set report)
call_in room closing = service.close
call_in room (taking entry) = service.aside (book.taking (length entry))

abbrev Opens : ℕ → HostCall → Type 0
Opens room (starting root serial picture) = Unit {0}
Opens room (opening message context syntax) = length message ≡ room
Opens room (feeding fragment bytes command data_set report) = Unit {0}
Opens room closing = Unit {0}
Opens room (taking entry) = Unit {0}

abbrev AllOpen : ℕ → List HostCall → Type 0
AllOpen room [] = Unit {0}
AllOpen room (h ∷ hs) = Opens room h × AllOpen room hs

call_in_lem : (room : ℕ) (k : Kept) (h : HostCall) → length k.message ≡ room → call_of k h ≡ call_in room h
unfolding call_of
call_in_lem room k (starting root serial picture) e = refl
call_in_lem room k (opening message context syntax) e = refl
call_in_lem room k (feeding fragment bytes command data_set report) e = rw e
call_in_lem room k closing e = refl
call_in_lem room k (taking entry) e = refl

either_room : (t : Bool) (room : ℕ) (message before : List ℕ) → length message ≡ room → length before ≡ room → length (pick t message before) ≡ room
either_room true room message before e f = e
either_room false room message before e f = f

room_kept : (room : ℕ) (k : Kept) (h : HostCall) → Bytes k.records → length k.message ≡ room → Opens room h → length (does k h).message ≡ room
unfolding does
room_kept room k (starting root serial picture) o e f = e
room_kept room k (opening message context syntax) o e f = either_room (eqb (opens k.records (open_handed context syntax (length message))).number 0) room message k.message f e
room_kept room k (feeding fragment bytes command data_set report) o e f = feed_fixed k o fragment bytes command data_set report ∙ e
room_kept room k closing o e f = e
room_kept room k (taking entry) o e f = e

pub calls_in : (room : ℕ) (k : Kept) (hs : List HostCall) → Bytes k.records → length k.message ≡ room → AllOpen room hs → calls_read (made_from k hs) ≡ map (call_in room) hs
unfolding made_from
calls_in room k [] o e f = refl
calls_in room k (h ∷ hs) o e f = rw (call_in_lem room k h e, calls_in room (does k h) hs (does_bytes k o h) (room_kept room k h o e f.0) f.1)

-- The run.

byte_list : (s : List ℕ) → every (λ (b : ℕ). ltb b 256) s ≡ true → Bytes s
byte_list s e i = each_or Byte s i 0 (each_told Byte (λ (b : ℕ). ltb b 256) (λ b h. ltb-true b 256 h) s e) (omega arith)

pub fragment_bytes : Bytes makes × Bytes sets × Bytes some_data × Bytes nonsense × Bytes stray
unfolding every
fragment_bytes = (byte_list makes refl, byte_list sets refl, byte_list some_data refl, byte_list nonsense refl, byte_list stray refl)

-- a feed with buffers just long enough, or with a command buffer that is too short, in which one byte stands everywhere
abbrev pub feeds : ℕ → (s : List ℕ) → Bytes s → ℕ → HostCall
feeds b s o command = feeding s o (replicate command b) (replicate 8192 b) (replicate 20 b)

abbrev pub opens_with_lem : ℕ → HostCall
opens_with_lem b = opening (replicate 4096 b) 1 1

abbrev pub starts_fresh : HostCall
starts_fresh = starting (0x31 ∷ 0x2E ∷ 0x39 ∷ 0x2E ∷ 0x37 ∷ []) 100 1

-- An open that is refused, since these bytes are no records; start, open, and six messages with a take and a refused feed among them.
-- Message 2 fails; 3 is cut off by 4, which is dropped; 5 is cut off by 6, which fails.
abbrev pub calls : List HostCall
calls =
    opens_with_lem 0
    ∷ starts_fresh
    ∷ opens_with_lem 0
    ∷ feeds 0 makes fragment_bytes.0 256
    ∷ feeds 0 makes fragment_bytes.0 256
    ∷ taking (replicate entry_room 0)
    ∷ feeds 0 sets fragment_bytes.1 256
    ∷ feeds 0 some_data fragment_bytes.2 255
    ∷ feeds 0 some_data fragment_bytes.2 256
    ∷ feeds 0 nonsense fragment_bytes.3 256
    ∷ feeds 0 stray fragment_bytes.4 256
    ∷ feeds 0 sets fragment_bytes.1 256
    ∷ feeds 0 makes fragment_bytes.0 256
    ∷ []

-- without messages 2, 4, 5 and 6, and with FFH wherever a byte is lent
abbrev pub calls_left : List HostCall
calls_left =
    opens_with_lem 255
    ∷ starts_fresh
    ∷ opens_with_lem 255
    ∷ feeds 255 makes fragment_bytes.0 256
    ∷ taking (replicate entry_room 255)
    ∷ feeds 255 sets fragment_bytes.1 256
    ∷ feeds 255 some_data fragment_bytes.2 255
    ∷ feeds 255 some_data fragment_bytes.2 256
    ∷ []

-- zero bytes, which are no records
abbrev pub memory : Kept
memory = record { records = replicate records_size 0; message = replicate 4096 0 }

pub memory_bytes : Bytes memory.records
memory_bytes i = each_or Byte (replicate records_size 0) i 0 (each_replicate Byte records_size 0 (omega arith)) (omega arith)

abbrev pub whole : List Made
whole = made_from memory calls

abbrev pub shorter : List Made
shorter = made_from memory calls_left

-- as the machine reads and answers them
abbrev as_read : List (Call handed)
as_read = map (call_in 4096) calls

abbrev as_left : List (Call handed)
as_left = map (call_in 4096) calls_left

abbrev no_records : Records Store
no_records = record { core = useless memory.records; input = idle }

read_whole : calls_read whole ≡ as_read
read_whole = calls_in 4096 memory calls memory_bytes (length-replicate {A = ℕ} 4096 0) (omega arith)

read_shorter : calls_read shorter ≡ as_left
read_shorter = calls_in 4096 memory calls_left memory_bytes (length-replicate {A = ℕ} 4096 0) (omega arith)

useless_memory : usable memory.records ≡ false
unfolding the_book
useless_memory = refl

-- The events of the whole run.
abbrev pub machine_events : List (Event handed Reply (List ℕ))
machine_events = history over_bytes no_records as_read

events_read : events_of memory whole ≡ machine_events
events_read = ap₂ (history over_bytes) (useless_view memory useless_memory) read_whole

-- messages 2, 4, 5 and 6
abbrev pub struck_out : ℕ → Bool
struck_out n = both (either (eqb n 2) (ltb 3 n)) (strikeable (fate_of n machine_events))

pub whole_ran : Ran by_contract memory whole
whole_ran = made_ran memory calls

pub shorter_ran : Ran by_contract memory shorter
shorter_ran = made_ran memory calls_left

pub may_strike : MayStrike memory whole struck_out
may_strike i h =
    ap strikeable (fate_shown_lem i (events_of memory whole) whole (events_shown memory whole memory_bytes whole_ran))
    ∙ ap (λ (es : List (Event handed Reply (List ℕ))). strikeable (fate_of i es)) events_read
    ∙ (both_true (either (eqb i 2) (ltb 3 i)) (strikeable (fate_of i machine_events)) h).1

-- the numbers that a run shows
abbrev pub numbers : List Made → List ℕ
numbers = map (λ (m : Made). m.shown.number)

numbers_shown : (ms : List Made) (given : List (Answer Reply (List ℕ))) → AllShown ms given → numbers ms ≡ map number_of given
unfolding AllShown
numbers_shown [] [] x = refl
numbers_shown [] (a ∷ given) x = absurd x
numbers_shown (m ∷ ms) [] x = absurd x
numbers_shown (m ∷ ms) (a ∷ given) x = ap₂ ◌∷◌ (ap (λ (s : Shown). s.number) x.0.same) (numbers_shown ms given x.1)

run_numbers : (hs : List HostCall) → Ran by_contract memory (made_from memory hs) → calls_read (made_from memory hs) ≡ map (call_in 4096) hs
    → numbers (made_from memory hs) ≡ map number_of (answers over_bytes no_records (map (call_in 4096) hs))
run_numbers hs ran e =
    numbers_shown (made_from memory hs) _ (run_shown memory (made_from memory hs) memory_bytes ran).all
    ∙ ap₂ (λ (v : Records Store) (cs : List (Call handed)). map number_of (answers over_bytes v cs)) (useless_view memory useless_memory) e

-- both runs as the machine answers them, and the calls that are left
computed :
    (map number_of (answers over_bytes no_records as_read) ≡ 1 ∷ 0 ∷ 0 ∷ 19 ∷ 19 ∷ 6 ∷ 16 ∷ 2 ∷ 16 ∷ 17 ∷ 18 ∷ 16 ∷ 19 ∷ [])
    × (map number_of (answers over_bytes no_records as_left) ≡ 1 ∷ 0 ∷ 0 ∷ 19 ∷ 6 ∷ 16 ∷ 2 ∷ 16 ∷ [])
    × (as_left ≡ left_of struck_out machine_events as_read)
unfolding the_book the_messages left_of store_check
computed = (refl, refl, refl)

pub left_calls : calls_read shorter ≡ left_of struck_out (events_of memory whole) (calls_read whole)
left_calls = read_shorter ∙ computed.2 ∙ ap₂ (left_of struck_out) (sym events_read) (sym read_whole)

-- what the host is shown of both
pub whole_numbers : numbers whole ≡ 1 ∷ 0 ∷ 0 ∷ 19 ∷ 19 ∷ 6 ∷ 16 ∷ 2 ∷ 16 ∷ 17 ∷ 18 ∷ 16 ∷ 19 ∷ []
whole_numbers = run_numbers calls whole_ran read_whole ∙ computed.0

pub shorter_numbers : numbers shorter ≡ 1 ∷ 0 ∷ 0 ∷ 19 ∷ 6 ∷ 16 ∷ 2 ∷ 16 ∷ []
shorter_numbers = run_numbers calls_left shorter_ran read_shorter ∙ computed.1

-- the buffer of an open that is done is the association's; that of a refused one is not
pub open_hands_over : (associated 0 (1 ∷ []) (2 ∷ []) ≡ 1 ∷ []) × (associated 3 (1 ∷ []) (2 ∷ []) ≡ 2 ∷ [])
open_hands_over = (refl, refl)
