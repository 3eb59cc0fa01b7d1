-- What the tests of the core, of the message half collected and of both are on their bytes.
-- Assumes nothing.
use Prim.Native.Nat.{ℕ, ◌+◌, ◌≤◌}
use mathlib.Core.Path.{◌≡◌, refl, sym, ap, ◌∙◌}
use mathlib.Core.Bool.{Bool, true}
use mathlib.Core.List.{List, [], ◌∷◌}
use native.Mathlib.Omega.{arith}
use lib.Dec.{eqb, leb}
use lib.ListN.{length, drop}
use borrow.Author.Tests.{le-leb}
use Rattle.choice.specs.Pick.{pick, both}
use Rattle.choice.proofs.Picks.{both_only}
use Rattle.octets.specs.Octets.{number_at, part}
use Rattle.strike.specs.Machine.{command_limit}
use Rattle.rules.specs.declared.Numbers.{Numbers}
use Rattle.rules.specs.declared.Session.{Session}
use Rattle.rules.specs.declared.Shelf.{Shelf}
use Rattle.rules.specs.declared.Queue.{Queue}
use Rattle.rules.specs.declared.Opened.{Opened}
use Rattle.rules.specs.Layout.{core_size, records_size, input_format, unpack}
use Rattle.rules.specs.Lists.{every}
use Rattle.rules.specs.Records.{films_of, command_held}
use Rattle.rules.specs.Sound.{all, zeros, numbers_sound, session_place_sound, shelf_sound, queue_sound, uids_apart, opened_sound, core_sound, phase_sound, input_sound, sound}
use Rattle.records.specs.Places.{numbers_in, session_in, shelf_in, queue_in, opened_in, core_in, held_in}
use Rattle.records.proofs.Parts.{unpack_core, unpack_held, core_numbers, core_sessions, core_shelf, core_queue, core_opened}
use Rattle.records.proofs.Texts.{text_front, text_behind}
use Rattle.names.proofs.Tests.{last_told}
use Rattle.soundness.specs.Held.{used_place}

module _ (b : List ℕ) (h : records_size ≤ length b) {used : ℕ} (e : used ≡ number_at 2 b used_place) (l : used ≤ command_limit) where
  pub held : part b (core_size + 7) (core_size + 7 + used) ≡ command_held (held_in b)
  unfolding input_format
  held = rw e (sym (text_front b (core_size + 7) command_limit (omega arith) (number_at 2 b used_place) (omega arith)))

  unheld : part b (core_size + 7 + used) records_size ≡ drop (held_in b).used (held_in b).command
  unfolding input_format
  unheld = rw e (sym (text_behind b (core_size + 7) command_limit (omega arith) (number_at 2 b used_place) (omega arith)))

  fits : leb (held_in b).used command_limit ≡ true
  unfolding input_format
  fits = le-leb (number_at 2 b used_place) command_limit (omega arith)

  -- the collecting state is one there may be, and the command fits its place
  pub input_told : {r : Bool} → leb (held_in b).phase (pick (eqb (opened_in b).live 0) 0 4) ≡ true
      → r ≡ both (zeros (part b (core_size + 7 + used) records_size)) (phase_sound (opened_in b).room (held_in b)) → r ≡ input_sound (opened_in b) (held_in b)
  unfolding input_sound every
  input_told first told =
      told ∙ ap (λ v. both (zeros v) (phase_sound (opened_in b).room (held_in b))) unheld
      ∙ sym (rw (first, fits, both_only (phase_sound (opened_in b).room (held_in b))))

-- The core, with its parts where they stand, and with what is tested of the only place.

abbrev rows : Numbers → List Session → Shelf → Queue → Opened → Bool → Bool
rows n sessions shelf queue opened place =
    all (numbers_sound n
    ∷ place
    ∷ shelf_sound n sessions shelf
    ∷ queue_sound n queue
    ∷ uids_apart sessions (films_of shelf)
    ∷ opened_sound opened
    ∷ [])

module _ (b : List ℕ) where
  abbrev rows_in : Bool → Bool
  rows_in = rows (numbers_in b) (session_in b ∷ []) (shelf_in b) (queue_in b) (opened_in b)

  parted : rows_in (every (session_place_sound (numbers_in b)) (session_in b ∷ [])) ≡ core_sound (core_in b)
  unfolding core_sound
  parted = rw (core_numbers b, core_sessions b, core_shelf b, core_queue b, core_opened b)

  pub core_told : {r : Bool} → r ≡ rows_in (session_place_sound (numbers_in b) (session_in b)) → r ≡ core_sound (core_in b)
  core_told e = e ∙ ap rows_in (last_told (session_place_sound (numbers_in b)) (session_in b) _ refl) ∙ parted

  pub state_told : {r : Bool} → r ≡ both (core_sound (core_in b)) (input_sound (opened_in b) (held_in b)) → r ≡ sound (unpack b)
  unfolding sound
  state_told e = e ∙ sym (rw (unpack_core b, unpack_held b, core_opened b))
