-- What the calls that C links promise over runs, known by nothing but their own contracts. Assumes nothing.
use mathlib.Core.Path.{◌≡◌}
use mathlib.Core.List.{List, [], ◌∷◌}
use Prim.Native.Nat.{ℕ, ◌<◌}
use lib.ListN.{length}
use Rattle.octets.specs.Octets.{Bytes, number_at}
use Rattle.rules.specs.Bounds.{ticket_place}
use Rattle.rules.specs.Records.{entries_of}
use Rattle.rules.specs.Calls.{entry_bytes}
use Rattle.promises.proofs.EntryBack.{entry_at}
use Rattle.promises.proofs.ListLaws.{Each}
use Rattle.promises.proofs.LiveUids.{LiveUidsDiffer}
use Rattle.promises.proofs.Parents.{Parented}
use Rattle.runs.specs.Host.{Kept, HostCall, Shown}
use Rattle.runs.specs.CallContracts.{Made, CallMade}
use Rattle.runs.specs.Runs.{core_in, Ran, last_left, Same, StrikeOut}
use Rattle.runs.proofs.Numbers.{NotRefused1}
use Rattle.runs.proofs.AtWork.{memory, memory_bytes, whole, shorter, struck_out, whole_ran, shorter_ran, may_strike, left_calls, numbers, whole_numbers, shorter_numbers}
use Rattle.gateway.proofs.Exported.{run_told}
use Rattle.gateway.proofs.Exported as library
use Rattle.gateway.proofs.Demands as library-demands
use Rattle.gateway_c.proofs.Linked.{StartTold, linked, call_exported, run_exported, run_linked}

-- ANY TWO OUTCOMES ALLOWED ARE EQUAL: the number returned, the records and every lent byte.
pub one_outcome : (k : Kept) (h : HostCall) (l l' : Kept) (s s' : Shown) → CallMade linked k h l s → CallMade linked k h l' s' → (l ≡ l') × (s ≡ s')
one_outcome k h l l' s s' m m' = library-demands.one_outcome k h l l' s s' (call_exported k h l s m) (call_exported k h l' s' m')

-- After a start that answers 0, whatever bytes stood there, and any run of calls:
module _ (before : List ℕ) (o : Bytes before) (root : List ℕ) (serial picture : ℕ) (k : Kept) (told : StartTold before root serial picture 0 k.records)
    (ms : List Made) (ran : Ran linked k ms) where
  begun : library.StartTold before root serial picture 0 k.records
  begun = record { lifetimes = told.lifetimes; records = told.records; root_at = told.root_at; told = told.told }

  -- No call is refused for its records.
  pub not_refused_1 : Each NotRefused1 ms
  not_refused_1 = library-demands.not_refused_1 before o root serial picture k begun ms (run_exported k ms ran)

  -- EVERY BOX HAS A LIVE PARENT, in the records' bytes.
  pub box_parented : Parented (core_in (last_left k ms))
  box_parented = library-demands.box_parented before o root serial picture k begun ms (run_exported k ms ran)

  -- LIVE UIDS DIFFER, character by character.
  pub live_uids_apart : LiveUidsDiffer (core_in (last_left k ms))
  live_uids_apart = library-demands.live_uids_apart before o root serial picture k begun ms (run_exported k ms ran)

  -- TICKETS OF THE SIXTEEN DIFFER: two entries of the queue are written by take with different tickets.
  pub tickets_apart : (i j : ℕ) → i < length (entries_of (core_in (last_left k ms)).queue) → j < length (entries_of (core_in (last_left k ms)).queue) → (i ≡ j → ⊥)
      → number_at 2 (entry_bytes (core_in (last_left k ms)).numbers (entry_at (core_in (last_left k ms)) i)) ticket_place ≡ number_at 2 (entry_bytes (core_in (last_left k ms)).numbers (entry_at (core_in (last_left k ms)) j)) ticket_place → ⊥
  tickets_apart = library-demands.tickets_apart before o root serial picture k begun ms (run_exported k ms ran)

-- STRIKE OUT any whole messages that were answered with a failure, dropped, or cut off by the next command; every other call gets the same
-- answer, byte for byte, and sessions, films, boxes, queue and next numbers end the same.
pub code_strike_out : StrikeOut linked
unfolding StrikeOut
code_strike_out k o whole struck ran left S may calls = library-demands.code_strike_out k o whole struck (run_exported k whole ran) (run_exported k struck left) S may calls

-- It is not empty: thirteen calls from bytes that are no records, and the eight that are left without four messages, with other bytes in
-- every buffer that is lent.
pub code_at_work :
    Same memory whole shorter struck_out
    × (numbers whole ≡ 1 ∷ 0 ∷ 0 ∷ 19 ∷ 19 ∷ 6 ∷ 16 ∷ 2 ∷ 16 ∷ 17 ∷ 18 ∷ 16 ∷ 19 ∷ [])
    × (numbers shorter ≡ 1 ∷ 0 ∷ 0 ∷ 19 ∷ 6 ∷ 16 ∷ 2 ∷ 16 ∷ [])
unfolding StrikeOut
code_at_work = (
  code_strike_out memory memory_bytes whole shorter (run_linked memory whole (run_told memory whole whole_ran)) (run_linked memory shorter (run_told memory shorter shorter_ran)) struck_out may_strike left_calls,
  whole_numbers,
  shorter_numbers,
)
