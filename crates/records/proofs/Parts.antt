-- The parts of the core are read where they stand. Assumes nothing.
use Prim.Native.Nat.{ℕ, ◌+◌}
use mathlib.Core.Path.{◌≡◌, refl, sym, ap}
use mathlib.Core.List.{List, [], ◌∷◌}
use lib.ListN.{get_or}
use Rattle.fields.specs.Format.{read_all}
use Rattle.rules.specs.declared.Opened.{Opened}
use Rattle.rules.specs.Records.{the_session, sessions_of}
use Rattle.rules.specs.Layout.{unpack, state_format, core_format, numbers_format, session_format, name_format, serial_format, shelf_format, film_format, layout_format, box_format, picture_format, queue_format, entry_format, opened_format}
use Rattle.records.specs.Places.{opened_place, numbers_in, session_in, shelf_in, queue_in, opened_in, core_in, held_in}

module _ (b : List ℕ) where
  pub unpack_core : (unpack b).core ≡ core_in b
  unfolding unpack state_format
  unpack_core = refl

  pub unpack_held : (unpack b).input ≡ held_in b
  unfolding unpack state_format core_format numbers_format session_format name_format serial_format shelf_format film_format layout_format box_format picture_format queue_format entry_format opened_format
  unpack_held = refl

  pub core_numbers : (core_in b).numbers ≡ numbers_in b
  unfolding core_format
  core_numbers = refl

  pub core_session : the_session (core_in b) ≡ session_in b
  unfolding core_format read_all numbers_format session_format name_format serial_format
  core_session = refl

  pub core_sessions : sessions_of (core_in b) ≡ session_in b ∷ []
  unfolding core_format read_all numbers_format session_format name_format serial_format
  core_sessions = refl

  pub core_shelf : (core_in b).shelf ≡ shelf_in b
  unfolding core_format numbers_format session_format name_format serial_format
  core_shelf = refl

  pub core_queue : (core_in b).queue ≡ queue_in b
  unfolding core_format numbers_format session_format name_format serial_format shelf_format film_format layout_format box_format picture_format
  core_queue = refl

  pub core_opened : (core_in b).opened ≡ opened_in b
  unfolding core_format numbers_format session_format name_format serial_format shelf_format film_format layout_format box_format picture_format queue_format entry_format
  core_opened = refl

  pub syntax_read : get_or b (opened_place + 2) 0 ≡ (core_in b).opened.syntax
  unfolding opened_format
  syntax_read = sym (ap (λ (o : Opened). o.syntax) core_opened)
