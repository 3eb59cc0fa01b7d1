-- Start over any bytes does what the machine does, and where it is done it makes good records.
-- Assumes nothing.
use mathlib.Core.Path.{◌≡◌, refl, ap, ◌∙◌}
use mathlib.Core.Bool.{Bool, true, false}
use mathlib.Core.List.{List, []}
use Prim.Native.Nat.{ℕ, ◌≤◌}
use native.Mathlib.Omega.{arith}
use borrow.Author.Tests.{ltb-false, le-ltb, leb-true, eqb-true}
use lib.Dec.{eqb, leb, ltb}
use lib.ListN.{length}
use Rattle.choice.specs.Pick.{pick}
use Rattle.choice.proofs.Picks.{Kept, pick_cases, both_true}
use Rattle.octets.specs.Octets.{Bytes}
use Rattle.strike.specs.Service.{start, Check, passes, refuses}
use Rattle.strike.specs.Machine as machine
use Rattle.strike.specs.Machine.{idle, Records, Step, checked, step}
use Rattle.strike.proofs.Lies.{AnswerLies}
use Rattle.rules.specs.declared.Core.{Core}
use Rattle.rules.specs.declared.State.{State}
use Rattle.rules.specs.Responses.{Reply}
use Rattle.rules.specs.Sound.{sound}
use Rattle.rules.specs.Layout.{records_size, unpack}
use Rattle.rules.specs.Calls.{Starting, start_rules, check, started, printing}
use Rattle.rules.specs.Outcomes.{records_in, written, number_of, Outcome, changed, unchanged, or_unchanged, starts}
use Rattle.promises.proofs.Calls.{started_sound}
use Rattle.promises.proofs.SizedAfter.{started_sized}
use Rattle.promises.proofs.Collecting.{held_in}
use Rattle.promises.proofs.Kept.{state_of}
use Rattle.promises.proofs.Good.{good_state, written_back}
use Rattle.promises.proofs.NextCalls.{fresh_sound}
use Rattle.runs.specs.Host as host
use Rattle.runs.specs.Host.{no_buffers}
use Rattle.runs.specs.Runs.{Store, good, useless, usable, store_in, store_check, over_bytes, view_of}
use Rattle.runs.proofs.Answers.{written_by, Proper}
use Rattle.runs.proofs.Buffers.{RecordsGood, laid_good}
use Rattle.runs.proofs.Refusals.{Refusal, check_cases}
use Rattle.runs.proofs.Stored.{records_good, good_usable, good_view}

-- fresh records, of arguments that keep the rules
abbrev pub fresh : Starting → Records Core
fresh h = record { core = started h; input = idle }

pub record Begun (h : Starting) (r : Records Store) : Type 0 where
  pub rules : Kept (start_rules h)
  pub is : r ≡ records_good (fresh h)

-- an outcome is that of a step of the machine
pub record StartRight (h : Starting) (message : List ℕ) (s : Step Store Reply (List ℕ)) (x : Outcome) : Type 0 where
  pub bytes : Bytes x.records
  pub view : view_of (record { records = x.records; message = message }) ≡ s.records
  pub number : x.number ≡ number_of s.answer
  pub quiet : written_by s.answer ≡ no_buffers
  pub lies : AnswerLies s.answer message
  pub proper : Proper no_buffers s.answer
  pub begun : x.number ≡ 0 → Begun h s.records

module _ (b message : List ℕ) (h : Starting) (o : Bytes b) where
  abbrev kept : host.Kept
  kept = record { records = b; message = message }

  -- the records' length is the one thing of them that a start looks at
  check_start : (t : Bool) → usable b ≡ t → store_check (pick t (good (unpack b).core) (useless b)) (start h) ≡ pick (ltb (length b) records_size) (refuses 2) (check (unpack b).core (start h))
  unfolding store_check check
  check_start true e = rw (le-ltb (length b) records_size (leb-true records_size (length b) (both_true (leb records_size (length b)) (sound (unpack b)) e).0))
  check_start false e = refl

  abbrev Right : Bool → Check → Type 0
  Right short x =
      StartRight h message (checked over_bytes (pick short (refuses 2) x) (view_of kept) (start h))
      (pick short (unchanged b 2) (or_unchanged b (checked printing x (records_in (unpack b) []) (start h))))

  right_short : (x : Check) → Right true x
  unfolding checked number_of
  right_short x = record { bytes = o; view = refl; number = refl; quiet = refl; lies = tt; proper = omega arith; begun = λ z. absurd (omega (arith, z)) }

  right_refused : (n : ℕ) → Refusal n → Right false (refuses n)
  unfolding checked number_of
  right_refused n small =
      pick_cases (StartRight h message (checked over_bytes (refuses n) (view_of kept) (start h))) (eqb n 0) (changed b (checked printing (refuses n) (records_in (unpack b) []) (start h))) (unchanged b n)
      (λ e. let z : n ≡ 0 = eqb-true n 0 e in absurd (omega arith))
      (λ e. record { bytes = o; view = refl; number = refl; quiet = refl; lies = tt; proper = small.1; begun = λ z. let f : n ≡ 0 = z in absurd (omega arith) })

  right_passed : records_size ≤ length b → Kept (start_rules h) → Right false passes
  unfolding checked number_of written
  right_passed long rules =
      let r = fresh h in
      let sized = started_sized h rules in
      let sound = started_sound h rules in
      let g : RecordsGood (written r b) = laid_good b (state_of r) o long (good_state r sound sized tt) (fresh_sound h rules) in
      let back : records_in (unpack (written r b)) message ≡ r =
      ap (λ (s : State). records_in s message) (written_back r b long sound sized tt) ∙ ap (λ (i : machine.Input). record { core = started h; input = i }) (held_in idle message tt) in
      record {
        bytes = g.bytes;
        view = good_view (record { records = written r b; message = message }) (good_usable (written r b) g) ∙ ap records_good back;
        number = refl;
        quiet = refl;
        lies = tt;
        proper = tt;
        begun = λ z. record { rules = rules; is = refl };
      }

  right_start : (short : Bool) → ltb (length b) records_size ≡ short → Right short (check (unpack b).core (start h))
  right_start true e = right_short (check (unpack b).core (start h))
  right_start false e =
      check_cases (unpack b).core (start h) (Right false) right_refused (right_passed (ltb-false (length b) records_size e))

  pub starts_right : StartRight h message (step over_bytes (view_of kept) (start h)) (starts b h)
  unfolding starts step store_in
  starts_right = rw (check_start (usable b) refl) (right_start (ltb (length b) records_size) refl)
