-- The next call unpacks what this one packed, and finds every rule kept.
-- Assumes nothing.
use Prim.Native.Nat.{ℕ, ◌%◌, ◌≤◌}
use mathlib.Core.Path.{◌≡◌, ap, ◌∙◌}
use mathlib.Core.Bool.{Bool, true, false}
use mathlib.Core.List.{List, [], ◌∷◌}
use native.Mathlib.Omega.{arith}
use lib.Dec.{eqb, leb}
use lib.ListN.{length, take}
use borrow.Author.Tests.{eqb-true}
use Rattle.choice.specs.Pick.{pick}
use Rattle.choice.proofs.Picks.{pick_cases, both_true}
use Rattle.octets.specs.Octets.{Bytes}
use Rattle.strike.specs.Service.{Call}
use Rattle.strike.specs.Machine as machine
use Rattle.strike.specs.Machine.{idle, in_command, skipping_command, in_data, skipping_data, Records, step}
use Rattle.strike.proofs.Lies.{Lies}
use Rattle.rules.specs.Bounds.{least_room, most_room}
use Rattle.rules.specs.declared.Opened.{Opened}
use Rattle.rules.specs.declared.Core.{Core}
use Rattle.rules.specs.declared.Input.{Input}
use Rattle.rules.specs.declared.State.{State}
use Rattle.rules.specs.Lists.{every}
use Rattle.rules.specs.Layout.{records_size, unpack}
use Rattle.rules.specs.Sound.{between, zeros, flag, open_sound, opened_sound, sound}
use Rattle.rules.specs.Calls.{handed, printing}
use Rattle.rules.specs.Records.{command_held}
use Rattle.rules.specs.Outcomes.{input_in, records_in, written}
use Rattle.promises.proofs.ListLaws.{all_true}
use Rattle.promises.proofs.Facts.{between_true, core_facts}
use Rattle.promises.proofs.Collecting.{Fits, in_fits, held_in}
use Rattle.promises.proofs.Kept.{state_of, sound_parts, call_sound}
use Rattle.promises.proofs.Good.{CommandFits, InputFits, written_back}
use Rattle.promises.proofs.SizedSteps.{step_sized}
use Rattle.promises.proofs.Unpacked.{unpacked_sized, unpacked_command, CallBytes, step_fits}

room_cases : (o : Opened) (closed : Bool) → pick closed (zeros (o.context ∷ o.syntax ∷ o.room ∷ [])) (open_sound o) ≡ true → o.room ≤ most_room
unfolding every
room_cases o true e =
    let t = all_true (eqb o.context 0 ∷ eqb o.syntax 0 ∷ eqb o.room 0 ∷ []) e in
    let z = eqb-true o.room 0 t.1.1.0 in
    omega arith
room_cases o false e =
    let t = all_true (eqb (o.context % 2) 1 ∷ leb o.context 255 ∷ between 1 2 o.syntax ∷ between least_room most_room o.room ∷ []) e in
    (between_true least_room most_room o.room t.1.1.1.0).1

pub room_most : (o : Opened) → opened_sound o ≡ true → o.room ≤ most_room
unfolding opened_sound
room_most o e = room_cases o (eqb o.live 0) (both_true (flag o.live) (pick (eqb o.live 0) (zeros (o.context ∷ o.syntax ∷ o.room ∷ [])) (open_sound o)) e).1

-- data that fits the message buffer fits its field
data_fits : (o : Opened) (i : Input) (message : List ℕ) → o.room ≤ most_room → CommandFits (command_held i) → Fits o (input_in i message) → InputFits (input_in i message)
unfolding input_in
data_fits o i message h c =
    let So : machine.Input → Type 0 = λ (x : machine.Input). Fits o x → InputFits x in
    pick_cases So (eqb i.phase 1) (in_command (command_held i)) _ (λ e r. c)
    (λ e. pick_cases So (eqb i.phase 2) skipping_command _ (λ f r. tt)
    (λ f. pick_cases So (eqb i.phase 3) (in_data (command_held i) (take i.got message)) _ (λ g r. (c, omega (arith, r.1.1)))
    (λ g. pick_cases So (eqb i.phase 4) (skipping_data (command_held i)) idle (λ j r. c) (λ j r. tt))))

-- what a call leaves, of the records in these bytes and the data in the message buffer
abbrev pub after_call : List ℕ → List ℕ → Call handed → Records Core
after_call b message c = (step printing (records_in (unpack b) message) c).records

module _ (b message : List ℕ) (c : Call handed) (o : Bytes b) (bytes : CallBytes c) (e : sound (unpack b) ≡ true) where
  -- it keeps the rules, and the input fits its fields
  pub after_sound : sound (state_of (after_call b message c)) ≡ true
  after_sound = call_sound (unpack b) message c e

  pub after_fits : InputFits (after_call b message c).input
  after_fits =
      let k = (unpack b).core in
      let i = (unpack b).input in
      let t = sound_parts (unpack b) e in
      let room = room_most k.opened (core_facts k t.0).opened in
      step_fits (records_in (unpack b) message) c room
      (data_fits k.opened i message room (unpacked_command b o) (in_fits k.opened i message t.1))
      bytes

  -- the next call unpacks what this one left
  pub next_unpacks : records_size ≤ length b → unpack (written (after_call b message c) b) ≡ state_of (after_call b message c)
  next_unpacks long =
      written_back (after_call b message c) b long
      (sound_parts (state_of (after_call b message c)) after_sound).0
      (step_sized (records_in (unpack b) message) c (unpacked_sized b o))
      after_fits

  -- and finds that it keeps the rules
  pub next_sound : records_size ≤ length b → sound (unpack (written (after_call b message c) b)) ≡ true
  next_sound long = ap sound (next_unpacks long) ∙ after_sound

  -- with the data in the message buffer, it has the very records that this one left
  pub next_records : records_size ≤ length b → (now : List ℕ) → Lies (after_call b message c).input now → records_in (unpack (written (after_call b message c) b)) now ≡ after_call b message c
  next_records long now lies =
      ap (λ (s : State). records_in s now) (next_unpacks long)
      ∙ ap (λ (i : machine.Input). record { core = (after_call b message c).core; input = i }) (held_in (after_call b message c).input now lies)
