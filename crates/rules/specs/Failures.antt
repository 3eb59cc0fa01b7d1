-- The failures of a request (rules 6.2 to 6.11) and the refusals of a call (chapter 3): the number that stands for each.
use Rattle.std.specs.Prelude.{ℕ}
use Rattle.rules.specs.declared.Failure.{Failure}
use Rattle.rules.specs.declared.Failure.TheVariants.{WrongValue, NotRead, DuplicateInstance, NoSuchInstance, InvalidInstance, NoSuchClass, OtherClass, MissingAttribute, MissingValue, NoSuchAction, NotOffered, NoRoom, NoFilms, NoRoomForFilms, NoRoomForFilm, SamePosition}
use Rattle.rules.specs.declared.Refusal.{Refusal}
use Rattle.rules.specs.declared.Refusal.TheVariants.{Broken, Short, BadArgument, NotOpen, BadFragment, QueueEmpty}

-- the status of a failure
abbrev pub status_of : Failure → ℕ
status_of WrongValue = 0x0106
status_of NotRead = 0x0110
status_of DuplicateInstance = 0x0111
status_of NoSuchInstance = 0x0112
status_of InvalidInstance = 0x0117
status_of NoSuchClass = 0x0118
status_of OtherClass = 0x0119
status_of MissingAttribute = 0x0120
status_of MissingValue = 0x0121
status_of NoSuchAction = 0x0123
status_of NotOffered = 0x0211
status_of NoRoom = 0x0213
status_of NoFilms = 0xC600
status_of NoRoomForFilms = 0xC601
status_of NoRoomForFilm = 0xC602
status_of SamePosition = 0xC604

-- the number that a refused call returns
abbrev pub number_of : Refusal → ℕ
number_of Broken = 1
number_of Short = 2
number_of BadArgument = 3
number_of NotOpen = 4
number_of BadFragment = 5
number_of QueueEmpty = 6
