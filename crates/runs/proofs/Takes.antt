-- Take over good records does what the machine does, and leaves good records: the message half collected stays.
-- Assumes nothing.
use mathlib.Core.Path.{◌≡◌, refl, sym, ap, subst}
use mathlib.Core.List.{List}
use Prim.Native.Nat.{ℕ}
use native.Mathlib.Omega.{arith}
use borrow.Author.Tests.{ltb-false, eqb-false}
use lib.ListN.{length}
use Rattle.choice.proofs.Picks.{Kept, first_kept}
use Rattle.strike.specs.Service.{Call, aside, Check, passes, refuses}
use Rattle.strike.specs.Machine.{Step, checked, step}
use Rattle.strike.proofs.Lies.{AnswerLies}
use Rattle.rules.specs.declared.Core.{Core}
use Rattle.rules.specs.declared.State.{State}
use Rattle.rules.specs.Bounds.{entry_room}
use Rattle.rules.specs.Records.{entries_of}
use Rattle.rules.specs.Responses.{Reply}
use Rattle.rules.specs.Layout.{unpack}
use Rattle.rules.specs.Calls as calls
use Rattle.rules.specs.Calls.{take_rules, taken, handed, printing}
use Rattle.rules.specs.Outcomes.{records_in, number_of, records_rules, Taking, nothing_taken, took, takes}
use Rattle.promises.proofs.Calls.{taken_sound}
use Rattle.promises.proofs.SizedAfter.{taken_sized}
use Rattle.promises.proofs.Kept.{sound_parts}
use Rattle.promises.proofs.Unpacked.{unpacked_sized}
use Rattle.promises.proofs.NextCalls.{core_written_back}
use Rattle.promises.proofs.EntryBack.{entry_length}
use Rattle.runs.specs.Host.{taking, lent_by}
use Rattle.runs.proofs.Does.{take_shown}
use Rattle.runs.proofs.Answers.{shown_of, Proper}
use Rattle.runs.proofs.Buffers.{RecordsGood, core_good}
use Rattle.runs.proofs.Refusals.{records_accepted, Refusal, outcome_cases}

-- an outcome is that of a step of the machine, whatever stands in the message buffer; an entry is laid in the buffer lent for it
pub record TakingRight (message lent : List ℕ) (s : Step Core Reply (List ℕ)) (x : Taking) : Type 0 where
  pub good : RecordsGood x.records
  pub view : records_in (unpack x.records) message ≡ s.records
  pub same : take_shown x ≡ shown_of (taking lent) s.answer
  pub lies : AnswerLies s.answer message
  pub proper : Proper (lent_by (taking lent)) s.answer

module _ (b message entry : List ℕ) (good : RecordsGood b) where
  abbrev call : Call handed
  call = aside (calls.taking (length entry))

  abbrev Right : Check → Taking → Type 0
  Right x t = TakingRight message entry (checked printing x (records_in (unpack b) message) call) t

  took_refused : (n : ℕ) → Refusal n → Right (refuses n) (nothing_taken b entry n)
  unfolding checked number_of
  took_refused n small = record { good = good; view = refl; same = refl; lies = tt; proper = small.1 }

  took_passed : Kept (take_rules (unpack b).core (length entry)) → Right passes (took b entry (taken (unpack b).core))
  unfolding checked number_of taken
  took_passed rules =
      let k = (unpack b).core in
      let parts = sound_parts (unpack b) good.kept in
      let sized = unpacked_sized b good.bytes in
      let e = taken_sound k parts.0 in
      let z = taken_sized k sized in
      let some = eqb-false (length (entries_of k.queue)) 0 rules.1.0 in
      record {
        good = core_good b (taken k).0 good e z parts.1;
        view = ap (λ (s : State). records_in s message) (core_written_back (taken k).0 b good.bytes good.long e z);
        same = refl;
        lies = tt;
        proper = omega (arith, entry_length k parts.0 sized 0 (omega arith), ltb-false (length entry) entry_room rules.0);
      }

  pub takes_right : TakingRight message entry (step printing (records_in (unpack b) message) call) (takes b entry)
  unfolding takes step
  takes_right =
      let k = (unpack b).core in
      subst (TakingRight message entry (step printing (records_in (unpack b) message) call))
      (sym (first_kept (nothing_taken b entry) (records_rules b) _ (records_accepted b good)))
      (outcome_cases k call Right (nothing_taken b entry) (took b entry (taken k)) took_refused took_passed)
