-- Arrays have their lengths after every call.
-- Assumes nothing.
use Rattle.strike.specs.Service.{Call}
use Rattle.strike.specs.Machine.{Records, step}
use Rattle.rules.specs.declared.Core.{Core}
use Rattle.rules.specs.Calls.{handed, printing}
use Rattle.promises.proofs.Decided.{After}
use Rattle.promises.proofs.Steps.{step_kept}
use Rattle.promises.proofs.Sized.{Sized}
use Rattle.promises.proofs.SizedAfter.{started_sized, opened_sized, closed_sized, taken_sized, session_created_sized, session_set_sized, session_deleted_sized, film_created_sized, film_set_sized, film_deleted_sized, box_set_sized, session_printed_sized, film_printed_sized}

after_sized : (k : Core) → Sized k → After Sized k
after_sized k z = record {
  kept = z;
  new_session = λ c sent l r q. session_created_sized k c sent l r q z;
  new_film = λ c sent l r q. film_created_sized k c sent l r q z;
  set_session = λ uid l n r. session_set_sized k l r z;
  set_film = λ uid i l n r. film_set_sized k i l z;
  set_box = λ uid i j l n r. box_set_sized k i j l z;
  print_session = λ uid n r. session_printed_sized k r z;
  print_film = λ uid i n r. film_printed_sized k i r z;
  no_session = λ uid n. session_deleted_sized k z;
  no_film = λ uid i n. film_deleted_sized k i z;
}

-- arrays have their lengths after every call
pub step_sized : (s : Records Core) (c : Call handed) → Sized s.core → Sized (step printing s c).records.core
step_sized s c z =
    step_kept Sized s
    (record {
      open_kept = λ h r. opened_sized s.core h z;
      close_kept = closed_sized s.core z;
      take_kept = taken_sized s.core z;
      request_kept = after_sized s.core z;
    })
    c (λ h e r. started_sized h r)
