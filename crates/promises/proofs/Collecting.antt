-- The message half collected: it fits its buffers, every call keeps that, and its data is read from the message buffer.
-- Assumes nothing.
use Prim.Native.Nat.{ℕ, zero, suc, ◌≤◌}
use mathlib.Core.Path.{◌≡◌, refl, sym, ap, ◌∙◌}
use mathlib.Core.Bool.{Bool, true, false}
use mathlib.Core.Option.{Option, none, some}
use mathlib.Core.List.{List, [], ◌∷◌, ◌++◌}
use native.Mathlib.Omega.{arith}
use borrow.Author.Tests.{leb-true, le-leb, eqb-true}
use lib.Dec.{eqb, leb, ltb}
use lib.ListN.{length, take, drop, length-take}
use Rattle.choice.specs.Pick.{pick, both, either, not}
use Rattle.choice.proofs.Picks.{Kept, pick_cases, not_false, not_true, both_true, both_holds, both_second, either_false}
use Rattle.strike.specs.Service.{DataSet, whole, Result, fails, does, Call, start, opening, feed, close, aside, passes}
use Rattle.strike.specs.Machine as machine
use Rattle.strike.specs.Machine.{Fragment, command, dataset, fragment_in, idle, in_command, skipping_command, in_data, skipping_data}
use Rattle.strike.specs.Machine.{command_limit, Outcome, ignores, waits, drops, asks, skips, reads, gathers, overflows, stores, collect, Records, answered, carried_out, fed, checked, step}
use Rattle.strike.specs.Messages.{after}
use Rattle.strike.proofs.Lies.{Lies}
use Rattle.rules.specs.declared.Opened.{Opened}
use Rattle.rules.specs.declared.Core.{Core}
use Rattle.rules.specs.declared.Input.{Input}
use Rattle.rules.specs.declared.Command.{Command}
use Rattle.rules.specs.declared.Command.TheVariants.{Unreadable, Unknown, Known}
use Rattle.rules.specs.Bounds.{least_room, most_room}
use Rattle.rules.specs.Lists.{filled_to}
use Rattle.rules.specs.Records.{is_open, command_held}
use Rattle.rules.specs.Commands.{has_data, understood}
use Rattle.rules.specs.Responses.{Reply}
use Rattle.rules.specs.Checks.{decide}
use Rattle.rules.specs.Sound.{zeros, readable, input_sound}
use Rattle.rules.specs.Calls.{Lengths, taking, handed, feed_rules, rules_of, taken, reading_of, reading, printing}
use Rattle.rules.specs.Outcomes.{input_in, input_held}
use Rattle.promises.proofs.ListLaws.{all_true, all_holds, zeros_replicate, take_filled, behind_filled}
use Rattle.promises.proofs.Steps.{step_cases, run_cases}

abbrev pub Open : Opened → Type 0
Open o = eqb o.live 0 ≡ false

-- a whole command set that was collected and is no more dropped
pub record Collected (c : List ℕ) : Type 0 where
  pub short : length c ≤ command_limit
  pub read : readable (understood c) ≡ true

-- "input fits its buffers": none while not open, "in data or skipping data with a readable command"
abbrev pub Fits : Opened → machine.Input → Type 0
Fits o idle = Unit {0}
Fits o (in_command c) = Open o × (length c ≤ command_limit)
Fits o skipping_command = Open o
Fits o (in_data c d) = Open o × (Collected c × (length d ≤ o.room))
Fits o (skipping_data c) = Open o × Collected c

abbrev pub DataFits : Opened → DataSet → Type 0
DataFits o d = length d.bytes ≤ o.room

abbrev pub OutcomeFits : Opened → Outcome → Type 0
OutcomeFits o ignores = Unit {0}
OutcomeFits o (waits i) = Fits o i
OutcomeFits o drops = Unit {0}
OutcomeFits o (asks c d) = Collected c × DataFits o d

-- A fragment.

module _ (o : Opened) (live : Open o) where
  reads_fit : (c : List ℕ) (withSet : Bool) (x : Command) → length c ≤ command_limit → understood c ≡ x → OutcomeFits o (reads (reading_of withSet x) c)
  unfolding reads
  reads_fit c withSet Unreadable h e = tt
  reads_fit c true (Unknown message field) h e = (live, (record { short = h; read = ap readable e }, omega arith))
  reads_fit c false (Unknown message field) h e = (record { short = h; read = ap readable e }, omega arith)
  reads_fit c true (Known r) h e = (live, (record { short = h; read = ap readable e }, omega arith))
  reads_fit c false (Known r) h e = (record { short = h; read = ap readable e }, omega arith)

  skips_fit : (last : Bool) → OutcomeFits o (skips last)
  unfolding skips
  skips_fit true = tt
  skips_fit false = live

  gathers_fit_if : (c : List ℕ) (b last : Bool) → leb (length c) command_limit ≡ b → OutcomeFits o (pick b (pick last (reads (reading c) c) (waits (in_command c))) (skips last))
  unfolding reading
  gathers_fit_if c true true e = reads_fit c (has_data c) (understood c) (leb-true (length c) command_limit e) refl
  gathers_fit_if c true false e = (live, leb-true (length c) command_limit e)
  gathers_fit_if c false last e = skips_fit last

  gathers_fit : (c : List ℕ) (last : Bool) → OutcomeFits o (gathers reading c last)
  unfolding gathers
  gathers_fit c last = gathers_fit_if c (leb (length c) command_limit) last refl

  overflows_fit : (c : List ℕ) (last : Bool) → Collected c → OutcomeFits o (overflows c last)
  unfolding overflows
  overflows_fit c true h = (h, omega arith)
  overflows_fit c false h = (live, h)

  stores_fit_if : (c d : List ℕ) (b last : Bool) → leb (length d) o.room ≡ b → Collected c → OutcomeFits o (pick b (pick last (asks c (whole d)) (waits (in_data c d))) (overflows c last))
  stores_fit_if c d true true e h = (h, leb-true (length d) o.room e)
  stores_fit_if c d true false e h = (live, (h, leb-true (length d) o.room e))
  stores_fit_if c d false last e h = overflows_fit c last h

  stores_fit : (c d : List ℕ) (last : Bool) → Collected c → OutcomeFits o (stores o.room c d last)
  unfolding stores
  stores_fit c d last h = stores_fit_if c d (leb (length d) o.room) last refl h

  -- what a fragment comes to fits: the input that waits, and the request that is asked
  pub collect_fits : (i : machine.Input) (f : Fragment) → Fits o i → OutcomeFits o (collect reading o.room i f)
  unfolding collect
  collect_fits idle (command last bytes) h = gathers_fit bytes last
  collect_fits (in_data c d) (command last bytes) h = gathers_fit bytes last
  collect_fits (skipping_data c) (command last bytes) h = gathers_fit bytes last
  collect_fits (in_command c) (command last bytes) h = gathers_fit (c ++ bytes) last
  collect_fits skipping_command (command last bytes) h = skips_fit last
  collect_fits (in_command c) (dataset last bytes) h = tt
  collect_fits skipping_command (dataset last bytes) h = tt
  collect_fits (in_data c d) (dataset last bytes) h = stores_fit c (d ++ bytes) last h.1.0
  collect_fits (skipping_data c) (dataset last bytes) h = overflows_fit c last h.1
  collect_fits idle (dataset last bytes) h = tt

-- Calls.

abbrev pub RecordsFit : Records Core → Type 0
RecordsFit s = Fits s.core.opened s.input

answered_fits : (k : Core) (d : DataSet) (x : Result Core Reply) → RecordsFit (answered printing k d x).records
unfolding answered
answered_fits k d (fails r) = tt
answered_fits k d (does k' r) = tt

outcome_fits : (k : Core) (x : Outcome) → OutcomeFits k.opened x → RecordsFit (carried_out printing k x).records
unfolding carried_out
outcome_fits k ignores h = tt
outcome_fits k (waits i) h = h
outcome_fits k drops h = tt
outcome_fits k (asks c d) h = answered_fits k d (decide k c d)

fed_fits : (s : Records Core) (f : Option Fragment) → Open s.core.opened → RecordsFit s → RecordsFit (fed printing s f).records
unfolding fed
fed_fits s none live h = tt
fed_fits s (some f) live h = outcome_fits s.core (collect reading s.core.opened.room s.input f) (collect_fits s.core.opened live s.input f h)

feed_open : (k : Core) (h : Lengths) → Kept (feed_rules k h) → Open k.opened
feed_open k h rows = not_true (eqb k.opened.live 0) (not_false (is_open k) rows.1.1.1.1.0)

passed_fits : (s : Records Core) (call : Call handed) → RecordsFit s → Kept (rules_of s.core call) → RecordsFit (checked printing passes s call).records
unfolding checked taken
passed_fits s (start a) h rows = tt
passed_fits s (opening a) h rows = tt
passed_fits s (feed bytes a) h rows = fed_fits s (fragment_in s.core.opened.context bytes) (feed_open s.core a rows) h
passed_fits s close h rows = tt
passed_fits s (aside (taking entry)) h rows = h

pub step_fits : (s : Records Core) (call : Call handed) → RecordsFit s → RecordsFit (step printing s call).records
step_fits s call h = step_cases RecordsFit s call h (passed_fits s call h)

pub run_fits : (s : Records Core) (cs : List (Call handed)) → RecordsFit s → RecordsFit (after printing s cs)
run_fits = run_cases RecordsFit step_fits

-- The rule of the records says the same of what they hold.

command_zeros : (c : List ℕ) → zeros (drop (length c) (filled_to command_limit 0 c)) ≡ true
command_zeros c = behind_filled command_limit 0 c (λ (b : ℕ). eqb b 0) refl

command_back : (c : List ℕ) → take (length c) (filled_to command_limit 0 c) ≡ c
command_back c = take_filled command_limit 0 c (length c) refl

command_held_lem : (c : List ℕ) → readable (understood (take (length c) (filled_to command_limit 0 c))) ≡ readable (understood c)
command_held_lem c = ap (λ (x : List ℕ). readable (understood x)) (command_back c)

phase_open : (o : Opened) (n : ℕ) → n ≤ 4 → Open o → leb n (pick (eqb o.live 0) 0 4) ≡ true
phase_open o n h live = rw live (le-leb n 4 h)

open_phase_if : (b : Bool) (n : ℕ) → 1 ≤ n → leb n (pick b 0 4) ≡ true → b ≡ false
open_phase_if true n h e = let r : n ≤ 0 = leb-true n 0 e in absurd (omega arith)
open_phase_if false n h e = refl

open_phase : (o : Opened) (n : ℕ) → 1 ≤ n → leb n (pick (eqb o.live 0) 0 4) ≡ true → Open o
open_phase o n h e = open_phase_if (eqb o.live 0) n h e

pub fits_sound : (o : Opened) (i : machine.Input) → Fits o i → input_sound o (input_held i) ≡ true
unfolding input_sound input_held
fits_sound o idle h = all_holds _ (le-leb 0 (pick (eqb o.live 0) 0 4) (omega arith), (refl, (command_zeros [], (zeros_replicate 2, tt))))
fits_sound o (in_command c) h = all_holds _ (phase_open o 1 (omega arith) h.0, (le-leb (length c) command_limit h.1, (command_zeros c, (refl, tt))))
fits_sound o skipping_command h = all_holds _ (phase_open o 2 (omega arith) h, (refl, (command_zeros [], (zeros_replicate 2, tt))))
fits_sound o (in_data c d) h =
    all_holds _
    (phase_open o 3 (omega arith) h.0, (le-leb (length c) command_limit h.1.0.short, (command_zeros c, (both_holds _ _ (command_held_lem c ∙ h.1.0.read) (le-leb (length d) o.room h.1.1), tt))))
fits_sound o (skipping_data c) h =
    all_holds _
    (phase_open o 4 (omega arith) h.0, (le-leb (length c) command_limit h.1.short, (command_zeros c, (both_holds _ _ (command_held_lem c ∙ h.1.read) refl, tt))))

pub sound_fits : (o : Opened) (i : machine.Input) → input_sound o (input_held i) ≡ true → Fits o i
unfolding input_sound input_held
sound_fits o idle e = tt
sound_fits o (in_command c) e =
    let r = all_true _ e in
    (open_phase o 1 (omega arith) r.0, leb-true (length c) command_limit r.1.0)
sound_fits o skipping_command e = open_phase o 2 (omega arith) (all_true _ e).0
sound_fits o (in_data c d) e =
    let r = all_true _ e in
    let p = both_true _ _ r.1.1.1.0 in
    (open_phase o 3 (omega arith) r.0, (record { short = leb-true (length c) command_limit r.1.0; read = sym (command_held_lem c) ∙ p.0 }, leb-true (length d) o.room p.1))
sound_fits o (skipping_data c) e =
    let r = all_true _ e in
    (open_phase o 4 (omega arith) r.0, record { short = leb-true (length c) command_limit r.1.0; read = sym (command_held_lem c) ∙ (both_true _ _ r.1.1.1.0).0 })

-- Any input that keeps the rule, as it is read from the records and the message buffer.

module _ (o : Opened) (i : Input) (message : List ℕ) where
  phase_live : (n : ℕ) → 1 ≤ n → eqb i.phase n ≡ true → leb i.phase (pick (eqb o.live 0) 0 4) ≡ true → Open o
  phase_live n h e limit = let p : i.phase ≡ n = eqb-true i.phase n e in open_phase o i.phase (omega arith) limit

  command_short : leb i.used command_limit ≡ true → length (command_held i) ≤ command_limit
  command_short h = let r : i.used ≤ command_limit = leb-true i.used command_limit h in omega (arith, length-take i.used i.command)

  in_fits_if : (a b c d : Bool) →
      eqb i.phase 1 ≡ a →
      eqb i.phase 2 ≡ b →
      eqb i.phase 3 ≡ c →
      eqb i.phase 4 ≡ d →
      leb i.phase (pick (eqb o.live 0) 0 4) ≡ true →
      leb i.used command_limit ≡ true →
      pick a (eqb i.got 0) (pick c (both (readable (understood (command_held i))) (leb i.got o.room)) (pick d (both (readable (understood (command_held i))) (eqb i.got 0)) (zeros (i.used ∷ i.got ∷ [])))) ≡ true →
      Fits o (pick a (in_command (command_held i)) (pick b skipping_command (pick c (in_data (command_held i) (take i.got message)) (pick d (skipping_data (command_held i)) idle))))
  in_fits_if true b c d p q r s limit short e = (phase_live 1 (omega arith) p limit, command_short short)
  in_fits_if false true c d p q r s limit short e = phase_live 2 (omega arith) q limit
  in_fits_if false false true d p q r s limit short e =
      let both-parts = both_true (readable (understood (command_held i))) (leb i.got o.room) e in
      let got : i.got ≤ o.room = leb-true i.got o.room both-parts.1 in
      (phase_live 3 (omega arith) r limit, (record { short = command_short short; read = both-parts.0 }, omega (arith, length-take i.got message)))
  in_fits_if false false false true p q r s limit short e =
      (phase_live 4 (omega arith) s limit, record { short = command_short short; read = (both_true (readable (understood (command_held i))) (eqb i.got 0) e).0 })
  in_fits_if false false false false p q r s limit short e = tt

  pub in_fits : input_sound o i ≡ true → Fits o (input_in i message)
  unfolding input_sound input_in
  in_fits e =
      let r = all_true _ e in
      in_fits_if (eqb i.phase 1) (eqb i.phase 2) (eqb i.phase 3) (eqb i.phase 4) refl refl refl refl r.0 r.1.0 r.1.1.1.0

-- The data that the records say lies in the message buffer is read from there.

take_taken : (n : ℕ) (xs : List ℕ) → take (length (take n xs)) xs ≡ take n xs
take_taken zero xs = refl
take_taken (suc n) [] = refl
take_taken (suc n) (x ∷ xs) = ap (λ (rest : List ℕ). x ∷ rest) (take_taken n xs)

pub view_lies : (i : Input) (message : List ℕ) → Lies (input_in i message) message
unfolding input_in
view_lies i message =
    let So : machine.Input → Type 0 = λ (x : machine.Input). Lies x message in
    pick_cases So (eqb i.phase 1) (in_command (command_held i)) _ (λ e. tt)
    (λ e. pick_cases So (eqb i.phase 2) skipping_command _ (λ f. tt)
    (λ f. pick_cases So (eqb i.phase 3) (in_data (command_held i) (take i.got message)) _ (λ g. take_taken i.got message)
    (λ g. pick_cases So (eqb i.phase 4) (skipping_data (command_held i)) idle (λ j. tt) (λ j. tt))))

-- a feed that is not refused has a message buffer of the length that the open fixed
pub room_told : (k : Core) (h : Lengths) → Kept (feed_rules k h) → k.opened.room ≡ h.message
room_told k h rules =
    let limits = either (ltb h.message least_room) (ltb most_room h.message) in
    let other = not (eqb h.message k.opened.room) in
    let wrong = (either_false limits (both (is_open k) other) rules.0).1 in
    let live = not_false (is_open k) rules.1.1.1.1.0 in
    sym (eqb-true h.message k.opened.room (not_false (eqb h.message k.opened.room) (both_second (is_open k) other wrong live)))

-- what is held is read back, where the data lies in the message buffer
pub held_in : (i : machine.Input) (message : List ℕ) → Lies i message → input_in (input_held i) message ≡ i
unfolding input_in input_held
held_in idle message h = refl
held_in (in_command c) message h = ap in_command (command_back c)
held_in skipping_command message h = refl
held_in (in_data c d) message h =
    ap (λ (x : List ℕ). in_data x (take (length d) message)) (command_back c) ∙ ap (in_data c) h
held_in (skipping_data c) message h = ap skipping_data (command_back c)
