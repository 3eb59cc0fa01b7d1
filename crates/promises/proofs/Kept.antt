-- Every call keeps the rules of the records: a state that keeps them is followed by one that does, in any run.
-- Assumes nothing.
use Prim.Native.Nat.{ℕ}
use mathlib.Core.Path.{◌≡◌}
use mathlib.Core.Bool.{true}
use mathlib.Core.List.{List}
use Rattle.choice.proofs.Picks.{Kept, first_kept, both_true, both_holds}
use Rattle.strike.specs.Service.{Call, start, passes, refuses}
use Rattle.strike.specs.Machine.{idle, Records, checked, step}
use Rattle.strike.specs.Messages.{after}
use Rattle.rules.specs.declared.Core.{Core}
use Rattle.rules.specs.declared.State.{State}
use Rattle.rules.specs.Sound.{core_sound, input_sound, sound}
use Rattle.rules.specs.Calls.{Starting, handed, start_rules, check, started, printing}
use Rattle.rules.specs.Outcomes.{input_held, records_in}
use Rattle.promises.proofs.Instances.{named_session, named_film, named_box}
use Rattle.promises.proofs.Calls.{started_sound, opened_sound_lem, closed_sound, taken_sound, session_deleted_sound}
use Rattle.promises.proofs.Sessions.{session_set_sound}
use Rattle.promises.proofs.NewSession.{session_created_sound}
use Rattle.promises.proofs.Boxes.{box_set_sound}
use Rattle.promises.proofs.Films.{film_deleted_sound, film_set_sound}
use Rattle.promises.proofs.NewFilm.{film_create_sound}
use Rattle.promises.proofs.Printing.{session_printed_sound, film_printed_sound}
use Rattle.promises.proofs.Decided.{After}
use Rattle.promises.proofs.Steps.{AfterCalls, step_kept, run_kept}
use Rattle.promises.proofs.Collecting.{RecordsFit, step_fits, run_fits, fits_sound, sound_fits, in_fits}

-- The core.

abbrev Sound : Core → Type 0
Sound k = core_sound k ≡ true

after_sound : (k : Core) → Sound k → After Sound k
after_sound k e = record {
  kept = e;
  new_session = λ c sent l a b. session_created_sound k c sent l e a b;
  new_film = λ c sent l a b. film_create_sound k c sent l e a b;
  set_session = λ uid l n r. session_set_sound k l e (named_session k uid n) r;
  set_film = λ uid i l n r. film_set_sound k i l e r;
  set_box = λ uid i j l n r. let t = named_box k uid i j n in box_set_sound k i j l e r t.0 t.1;
  print_session = λ uid n r. session_printed_sound k e r;
  print_film = λ uid i n r. film_printed_sound k i e (named_film k uid i n) r;
  no_session = λ uid n. session_deleted_sound k e;
  no_film = λ uid i n. film_deleted_sound k i e;
}

each_sound : (k : Core) → Sound k → AfterCalls Sound k
each_sound k e = record {
  open_kept = λ h r. opened_sound_lem k h e r;
  close_kept = closed_sound k e;
  take_kept = taken_sound k e;
  request_kept = after_sound k e;
}

-- every call keeps the rules, refused or not
pub step_keeps : (s : Records Core) (call : Call handed) → core_sound s.core ≡ true → core_sound (step printing s call).records.core ≡ true
step_keeps s call e = step_kept Sound s (each_sound s.core e) call (λ h i r. started_sound h r)

-- and so does every run
pub run_keeps : (s : Records Core) (calls : List (Call handed)) → core_sound s.core ≡ true → core_sound (after printing s calls).core ≡ true
run_keeps = run_kept Sound started_sound each_sound

-- The records as they are kept between calls.

abbrev pub state_of : Records Core → State
state_of s = record { core = s.core; input = input_held s.input }

pub sound_parts : (s : State) → sound s ≡ true → (core_sound s.core ≡ true) × (input_sound s.core.opened s.input ≡ true)
unfolding sound
sound_parts s e = both_true (core_sound s.core) (input_sound s.core.opened s.input) e

module _ (s : Records Core) where
  records_parts : sound (state_of s) ≡ true → (core_sound s.core ≡ true) × RecordsFit s
  records_parts e =
      let r = sound_parts (state_of s) e in
      (r.0, sound_fits s.core.opened s.input r.1)

  parts_sound : core_sound s.core ≡ true → RecordsFit s → sound (state_of s) ≡ true
  unfolding sound
  parts_sound e h = both_holds _ _ e (fits_sound s.core.opened s.input h)

-- one call, refused or not
pub call_keeps_rules : (s : Records Core) (call : Call handed) → sound (state_of s) ≡ true → sound (state_of (step printing s call).records) ≡ true
call_keeps_rules s call e =
    let r = records_parts s e in
    parts_sound (step printing s call).records (step_keeps s call r.0) (step_fits s call r.1)

-- any run of calls
pub run_keeps_rules : (s : Records Core) (calls : List (Call handed)) → sound (state_of s) ≡ true → sound (state_of (after printing s calls)) ≡ true
run_keeps_rules s calls e =
    let r = records_parts s e in
    parts_sound (after printing s calls) (run_keeps s calls r.0) (run_fits s calls r.1)

-- a start that is done makes records that keep them, so that no run from a start meets a broken rule
pub start_keeps_rules : (s : Records Core) (h : Starting) → Kept (start_rules h) → sound (state_of (step printing s (start h)).records) ≡ true
unfolding step check checked
start_keeps_rules s h rows =
    rw (first_kept refuses (start_rules h) passes rows) (parts_sound (record { core = started h; input = idle }) (started_sound h rows) tt)

-- one call of the records that it unpacks, with the message buffer, and those that it packs
pub call_sound : (s : State) (message : List ℕ) (call : Call handed) → sound s ≡ true → sound (state_of (step printing (records_in s message) call).records) ≡ true
call_sound s message call e =
    let r = sound_parts s e in
    let before : Records Core = records_in s message in
    parts_sound (step printing before call).records (step_keeps before call r.0)
    (step_fits before call (in_fits s.core.opened s.input message r.1))
