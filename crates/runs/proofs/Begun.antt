-- A run that begins with a start over any bytes leaves in the records' bytes what the book's run leaves: so the promises about the book's
-- runs hold of the bytes.
-- Assumes nothing.
use mathlib.Core.Path.{◌≡◌, refl, sym, ap, ◌∙◌, subst}
use mathlib.Core.Bool.{true}
use mathlib.Core.List.{List, [], ◌∷◌}
use Prim.Native.Nat.{ℕ, ◌<◌}
use lib.ListN.{length}
use Rattle.octets.specs.Octets.{Bytes, number_at}
use Rattle.strike.specs.Service.{Call, start}
use Rattle.strike.specs.Machine.{Records, step}
use Rattle.strike.specs.Messages.{answers, after}
use Rattle.rules.specs.declared.Core.{Core}
use Rattle.rules.specs.Bounds.{ticket_place}
use Rattle.rules.specs.Records.{entries_of}
use Rattle.rules.specs.Sound.{core_sound}
use Rattle.rules.specs.Calls.{Starting, handed, entry_bytes, printing}
use Rattle.rules.specs.Outcomes.{Outcome}
use Rattle.promises.proofs.Calls.{started_sound}
use Rattle.promises.proofs.Kept.{run_keeps}
use Rattle.promises.proofs.ListLaws.{Each}
use Rattle.promises.proofs.LiveUids.{LiveUidsDiffer, live_uids_differ}
use Rattle.promises.proofs.Parents.{Parented, parented}
use Rattle.promises.proofs.Tickets.{Ticketed, started_ticketed, run_ticketed}
use Rattle.promises.proofs.Unpacked.{unpacked_sized}
use Rattle.promises.proofs.EntryBack.{entry_at, ticket_bytes_differ}
use Rattle.runs.specs.Host.{Kept, start_handed}
use Rattle.runs.specs.CallContracts.{StartMet, by_contract, Made}
use Rattle.runs.specs.Runs.{Store, over_bytes, view_of, core_in, Ran, last_left, calls_read}
use Rattle.runs.proofs.Stored.{records_good, step_good_lem, core_of, store_core}
use Rattle.runs.proofs.Begins.{fresh, Begun, starts_right}
use Rattle.runs.proofs.Ran.{AllShown, run_shown}
use Rattle.runs.proofs.Numbers.{NotRefused1, never_refused_1}

-- a run over good records is the book's run
run_good : (cs : List (Call handed)) (s : Records Core) → after over_bytes (records_good s) cs ≡ records_good (after printing s cs)
unfolding after
run_good [] s = refl
run_good (c ∷ cs) s = ap (λ (r : Records Store). after over_bytes r cs) (ap (λ x. x.records) (step_good_lem s c)) ∙ run_good cs (step printing s c).records

-- a start that answers 0, whatever bytes stood there, and a run of calls after it
module _ (before : List ℕ) (o : Bytes before) (root : List ℕ) (serial picture : ℕ) (k : Kept) (met : StartMet before root serial picture 0 k.records)
    (ms : List Made) (ran : Ran by_contract k ms) where
  abbrev given : Starting
  given = start_handed root serial picture

  abbrev left : Kept
  left = last_left k ms

  -- the book's run
  abbrev book : Core
  book = (after printing (fresh given) (calls_read ms)).core

  abbrev started : Records Store
  started = (step over_bytes (view_of (record { records = before; message = k.message })) (start given)).records

  begun : Begun given started
  begun = (starts_right before k.message given o).begun (ap (λ (x : Outcome). x.number) (sym met))

  begun_view : view_of k ≡ records_good (fresh given)
  begun_view =
      subst (λ (x : Outcome). view_of (record { records = x.records; message = k.message }) ≡ started) (sym met) (starts_right before k.message given o).view
      ∙ begun.is

  begun_bytes : Bytes k.records
  begun_bytes = subst (λ (x : Outcome). Bytes x.records) (sym met) (starts_right before k.message given o).bytes

  pub begun_core : core_in left ≡ book
  begun_core =
      let x = run_shown k ms begun_bytes ran in
      sym (store_core left.records)
      ∙ ap (λ (r : Records Store). core_of r.core) (x.ended ∙ ap (λ (r : Records Store). after over_bytes r (calls_read ms)) begun_view ∙ run_good (calls_read ms) (fresh given))

  core_kept : core_sound (core_in left) ≡ true
  core_kept = ap core_sound begun_core ∙ run_keeps (fresh given) (calls_read ms) (started_sound given begun.rules)

  -- No call is refused for its records.
  pub not_refused_1 : Each NotRefused1 ms
  not_refused_1 =
      never_refused_1 (calls_read ms) (fresh given) ms
      (subst (λ (r : Records Store). AllShown ms (answers over_bytes r (calls_read ms))) begun_view (run_shown k ms begun_bytes ran).all)

  -- EVERY BOX HAS A LIVE PARENT, in the records' bytes.
  pub parented_in_bytes : Parented (core_in left)
  parented_in_bytes = parented (core_in left) core_kept

  -- LIVE UIDS DIFFER as texts, in the records' bytes.
  pub live_uids_in_bytes : LiveUidsDiffer (core_in left)
  live_uids_in_bytes = live_uids_differ (core_in left) core_kept

  -- TICKETS OF THE SIXTEEN DIFFER: two entries that the queue's bytes hold are written by take with different tickets.
  pub tickets_in_bytes : (i j : ℕ) → i < length (entries_of (core_in left).queue) → j < length (entries_of (core_in left).queue) → (i ≡ j → ⊥)
      → number_at 2 (entry_bytes (core_in left).numbers (entry_at (core_in left) i)) ticket_place ≡ number_at 2 (entry_bytes (core_in left).numbers (entry_at (core_in left) j)) ticket_place → ⊥
  tickets_in_bytes =
      ticket_bytes_differ (core_in left) core_kept (unpacked_sized left.records (run_shown k ms begun_bytes ran).bytes)
      (subst Ticketed (sym begun_core) (run_ticketed (fresh given) (calls_read ms) (started_ticketed given)))
