-- "Collecting a message", by computation: headers, and the limits of a command and of a message buffer of 4 bytes.
-- Assumes nothing.
use mathlib.Core.Path.{◌≡◌, refl}
use mathlib.Core.Bool.{true, false}
use mathlib.Core.Option.{none, some}
use mathlib.Core.List.{[], ◌∷◌, map}
use lib.ListN.{replicate}
use Rattle.strike.specs.declared.Reading.TheVariants.{WithData}
use Rattle.strike.specs.Service.{whole, too_long}
use Rattle.strike.specs.Machine.{Fragment, command, dataset, fragment_in, Input, idle, in_command, skipping_command, in_data, skipping_data}
use Rattle.strike.specs.Machine.{Outcome, waits, drops, asks, collect}
use Rattle.strike.proofs.Opened.{the_machine}

abbrev collected : Input → Fragment → Outcome
collected i f = collect (λ c. WithData) 4 i f

record Computed : Type 0 where
  right_headers :
      map (fragment_in 1) ((0 ∷ 0 ∷ 0 ∷ 3 ∷ 1 ∷ 0 ∷ 9 ∷ []) ∷ (0 ∷ 0 ∷ 0 ∷ 3 ∷ 1 ∷ 1 ∷ 9 ∷ []) ∷ (0 ∷ 0 ∷ 0 ∷ 3 ∷ 1 ∷ 2 ∷ 9 ∷ []) ∷ (0 ∷ 0 ∷ 0 ∷ 2 ∷ 1 ∷ 3 ∷ []) ∷ [])
      ≡ some (dataset false (9 ∷ [])) ∷ some (command false (9 ∷ [])) ∷ some (dataset true (9 ∷ [])) ∷ some (command true []) ∷ []
  cut_short : fragment_in 1 (0 ∷ 0 ∷ 0 ∷ 1 ∷ 1 ∷ []) ≡ none
  another_length : map (fragment_in 1) ((0 ∷ 0 ∷ 0 ∷ 2 ∷ 1 ∷ 3 ∷ 9 ∷ []) ∷ (0 ∷ 0 ∷ 0 ∷ 4 ∷ 1 ∷ 3 ∷ 9 ∷ []) ∷ (3 ∷ 0 ∷ 0 ∷ 0 ∷ 1 ∷ 3 ∷ 9 ∷ []) ∷ []) ≡ none ∷ none ∷ none ∷ []
  another_context : fragment_in 1 (0 ∷ 0 ∷ 0 ∷ 3 ∷ 3 ∷ 3 ∷ 9 ∷ []) ≡ none
  higher_bits : map (fragment_in 1) ((0 ∷ 0 ∷ 0 ∷ 3 ∷ 1 ∷ 4 ∷ 9 ∷ []) ∷ (0 ∷ 0 ∷ 0 ∷ 3 ∷ 1 ∷ 131 ∷ 9 ∷ []) ∷ []) ≡ none ∷ none ∷ []
  command_fits : collected idle (command false (replicate 1024 7)) ≡ waits (in_command (replicate 1024 7))
  command_past :
      map (collected (in_command (replicate 1024 7))) (command false (7 ∷ []) ∷ command true (7 ∷ []) ∷ []) ≡ waits skipping_command ∷ drops ∷ []
  skipped_command :
      map (collected skipping_command) (command false (7 ∷ []) ∷ command true (7 ∷ []) ∷ dataset false (7 ∷ []) ∷ [])
      ≡ waits skipping_command ∷ drops ∷ drops ∷ []
  data_in_command : collected (in_command (7 ∷ [])) (dataset false (7 ∷ [])) ≡ drops
  data_fits :
      map (collected (in_data (7 ∷ []) (1 ∷ 2 ∷ 3 ∷ []))) (dataset false (4 ∷ []) ∷ dataset true (4 ∷ []) ∷ [])
      ≡ waits (in_data (7 ∷ []) (1 ∷ 2 ∷ 3 ∷ 4 ∷ [])) ∷ asks (7 ∷ []) (whole (1 ∷ 2 ∷ 3 ∷ 4 ∷ [])) ∷ []
  data_past :
      map (collected (in_data (7 ∷ []) (1 ∷ 2 ∷ 3 ∷ []))) (dataset false (4 ∷ 5 ∷ []) ∷ dataset true (4 ∷ 5 ∷ []) ∷ [])
      ≡ waits (skipping_data (7 ∷ [])) ∷ asks (7 ∷ []) too_long ∷ []
  skipped_data :
      map (collected (skipping_data (7 ∷ []))) (dataset false [] ∷ dataset true [] ∷ command false (8 ∷ []) ∷ [])
      ≡ waits (skipping_data (7 ∷ [])) ∷ asks (7 ∷ []) too_long ∷ waits (in_command (8 ∷ [])) ∷ []

computed : Computed
unfolding the_machine
computed =
    record {
      right_headers = refl;
      cut_short = refl;
      another_length = refl;
      another_context = refl;
      higher_bits = refl;
      command_fits = refl;
      command_past = refl;
      skipped_command = refl;
      data_in_command = refl;
      data_fits = refl;
      data_past = refl;
      skipped_data = refl;
    }
