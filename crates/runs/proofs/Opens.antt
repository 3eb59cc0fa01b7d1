-- Open and close over good records do what the machine does, and leave good records.
-- Assumes nothing.
use mathlib.Core.Path.{◌≡◌, refl, sym, ap, ◌∙◌, subst}
use mathlib.Core.List.{List, []}
use Prim.Native.Nat.{ℕ}
use native.Mathlib.Omega.{arith}
use borrow.Author.Tests.{eqb-true}
use lib.Dec.{eqb}
use Rattle.choice.proofs.Picks.{pick_cases, first_kept}
use Rattle.strike.specs.Service.{Call, opening, close, Check, passes, refuses}
use Rattle.strike.specs.Machine as machine
use Rattle.strike.specs.Machine.{idle, done, Step, leaves, checked, step}
use Rattle.strike.proofs.Lies.{AnswerLies}
use Rattle.rules.specs.declared.Core.{Core}
use Rattle.rules.specs.Responses.{Reply}
use Rattle.rules.specs.Layout.{unpack}
use Rattle.rules.specs.Calls.{Opening, handed, check, opened, closed, printing}
use Rattle.rules.specs.Outcomes.{input_in, records_in, number_of, records_rules, Outcome, changed, unchanged, or_unchanged, called, opens, closes}
use Rattle.promises.proofs.Unpacked.{CallBytes}
use Rattle.promises.proofs.Next.{after_call}
use Rattle.runs.specs.Host.{no_buffers}
use Rattle.runs.proofs.Buffers.{RecordsGood, left_good, left_view}
use Rattle.runs.proofs.Refusals.{records_accepted, Refusal, check_cases}
use Rattle.runs.proofs.Answers.{written_by, Proper}

-- an outcome is that of a step of the machine; once it is done, whatever stands in the message buffer
pub record OutcomeRight (message : List ℕ) (s : Step Core Reply (List ℕ)) (x : Outcome) : Type 0 where
  pub good : RecordsGood x.records
  pub view : records_in (unpack x.records) message ≡ s.records
  pub done_view : x.number ≡ 0 → (now : List ℕ) → records_in (unpack x.records) now ≡ s.records
  pub number : x.number ≡ number_of s.answer
  pub quiet : written_by s.answer ≡ no_buffers
  pub lies : (now : List ℕ) → AnswerLies s.answer now
  pub proper : Proper no_buffers s.answer

-- a call that, once passed, leaves a core and no message half collected
module _ (b message : List ℕ) (c : Call handed) (good : RecordsGood b) (bytes : CallBytes c) (left : Core)
    (leaving : (i : machine.Input) → checked printing passes (record { core = (unpack b).core; input = i }) c ≡ leaves left idle done) where
  abbrev Right : Check → Type 0
  Right x = OutcomeRight message (checked printing x (records_in (unpack b) message) c) (or_unchanged b (checked printing x (records_in (unpack b) []) c))

  right_refused : (n : ℕ) → Refusal n → Right (refuses n)
  unfolding checked number_of
  right_refused n h =
      pick_cases (OutcomeRight message (checked printing (refuses n) (records_in (unpack b) message) c)) (eqb n 0) (changed b (checked printing (refuses n) (records_in (unpack b) []) c)) (unchanged b n)
      (λ e. let z : n ≡ 0 = eqb-true n 0 e in absurd (omega arith))
      (λ e. record { good = good; view = refl; done_view = λ z now. let f : n ≡ 0 = z in absurd (omega arith); number = refl; quiet = refl; lies = λ now. tt; proper = h.1 })

  left_records : check (unpack b).core c ≡ passes → after_call b message c ≡ record { core = left; input = idle }
  unfolding step
  left_records e =
      ap (λ (x : Check). (checked printing x (records_in (unpack b) message) c).records) e
      ∙ ap (λ (x : Step Core Reply (List ℕ)). x.records) (leaving (input_in (unpack b).input message))

  right_passed : check (unpack b).core c ≡ passes → Right passes
  unfolding number_of
  right_passed e =
      rw (leaving (input_in (unpack b).input message), leaving (input_in (unpack b).input []))
      (record {
        good = left_good b message c good bytes (record { core = left; input = idle }) (left_records e);
        view = left_view b message c good bytes (record { core = left; input = idle }) message (left_records e) tt;
        done_view = λ z now. left_view b message c good bytes (record { core = left; input = idle }) now (left_records e) tt;
        number = refl;
        quiet = refl;
        lies = λ now. tt;
        proper = tt;
      })

  outcome_right : OutcomeRight message (step printing (records_in (unpack b) message) c) (or_unchanged b (step printing (records_in (unpack b) []) c))
  unfolding step
  outcome_right =
      check_cases (unpack b).core c (λ (x : Check). check (unpack b).core c ≡ x → Right x) (λ n h e. right_refused n h) (λ r e. right_passed e) refl

  -- they look at the records first
  called_right : OutcomeRight message (step printing (records_in (unpack b) message) c) (called (records_rules b) b c)
  called_right =
      subst (OutcomeRight message (step printing (records_in (unpack b) message) c))
      (sym (first_kept (unchanged b) (records_rules b) (or_unchanged b (step printing (records_in (unpack b) []) c)) (records_accepted b good))) outcome_right

module _ (b message : List ℕ) (good : RecordsGood b) where
  abbrev RightCall : Call handed → Outcome → Type 0
  RightCall c x = OutcomeRight message (step printing (records_in (unpack b) message) c) x

  pub opens_right : (h : Opening) → RightCall (opening h) (opens b h)
  unfolding opens checked
  opens_right h = called_right b message (opening h) good tt (opened (unpack b).core h) (λ i. refl)

  pub closes_right : RightCall close (closes b)
  unfolding closes checked
  closes_right = called_right b message close good tt (closed (unpack b).core) (λ i. refl)
