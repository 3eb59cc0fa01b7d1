-- Where the parts of the records stand in their bytes, and the parts as they are read there.
use Rattle.std.specs.Prelude.{ℕ, ◌+◌, ◌*◌, List}
use Rattle.rules.specs.declared.Numbers.{Numbers}
use Rattle.rules.specs.declared.Session.{Session}
use Rattle.rules.specs.declared.Shelf.{Shelf}
use Rattle.rules.specs.declared.Queue.{Queue}
use Rattle.rules.specs.declared.Opened.{Opened}
use Rattle.rules.specs.declared.Core.{Core}
use Rattle.rules.specs.declared.Input.{Input}
use Rattle.rules.specs.Bounds.{most_sessions}
use Rattle.rules.specs.Layout.{numbers_size, session_size, shelf_size, queue_size, core_size, numbers_format, session_format, shelf_format, queue_format, opened_format, input_format, core_format}

abbrev pub shelf_place : ℕ
shelf_place = numbers_size + most_sessions * session_size

abbrev pub queue_place : ℕ
queue_place = shelf_place + shelf_size

abbrev pub opened_place : ℕ
opened_place = queue_place + queue_size

abbrev pub numbers_in : List ℕ → Numbers
numbers_in b = numbers_format.read b 0

-- the session at the only place
abbrev pub session_in : List ℕ → Session
session_in b = session_format.read b numbers_size

abbrev pub shelf_in : List ℕ → Shelf
shelf_in b = shelf_format.read b shelf_place

abbrev pub queue_in : List ℕ → Queue
queue_in b = queue_format.read b queue_place

abbrev pub opened_in : List ℕ → Opened
opened_in b = opened_format.read b opened_place

abbrev pub core_in : List ℕ → Core
core_in b = core_format.read b 0

-- the message half collected
abbrev pub held_in : List ℕ → Input
held_in b = input_format.read b core_size
