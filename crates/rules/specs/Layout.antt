-- The records: how they stand in bytes, field after field; beside each format, how many bytes that is.
use Rattle.std.specs.Prelude.{ℕ, ◌+◌, ◌*◌, List}
use Rattle.fields.specs.Format.{Format, byte, number, ◌then◌, array, via}
use Rattle.strike.specs.Machine.{command_limit}
use Rattle.rules.specs.declared.Serial.{Serial}
use Rattle.rules.specs.declared.Picture.{Picture}
use Rattle.rules.specs.declared.Name.{Name}
use Rattle.rules.specs.declared.Session.{Session}
use Rattle.rules.specs.declared.ImageBox.{ImageBox}
use Rattle.rules.specs.declared.Layout.{Layout}
use Rattle.rules.specs.declared.Film.{Film}
use Rattle.rules.specs.declared.Shelf.{Shelf}
use Rattle.rules.specs.declared.Entry.{Entry}
use Rattle.rules.specs.declared.Queue.{Queue}
use Rattle.rules.specs.declared.Numbers.{Numbers}
use Rattle.rules.specs.declared.Opened.{Opened}
use Rattle.rules.specs.declared.Core.{Core}
use Rattle.rules.specs.declared.Input.{Input}
use Rattle.rules.specs.declared.State.{State}
use Rattle.rules.specs.Bounds.{most_films, most_boxes, most_entries, root_limit, most_sessions}

abbrev pub serial_size : ℕ
serial_size = 4

unfoldable pub serial_format : Format Serial
serial_format = via (λ t. record { 0 = t }) (λ x. x.0) (number serial_size)

abbrev pub picture_size : ℕ
picture_size = 4

unfoldable pub picture_format : Format Picture
picture_format = via (λ t. record { 0 = t }) (λ x. x.0) (number picture_size)

abbrev pub name_size : ℕ
name_size = serial_size + 1 + 64

unfoldable pub name_format : Format Name
name_format =
    via
    (λ t. record { made = t.0; used = t.1.0; text = t.1.1 })
    (λ x. (x.made, (x.used, x.text)))
    (serial_format then byte then array 64 byte)

abbrev pub session_size : ℕ
session_size = 1 + name_size + 1 + 1 + 1 + 1 + 1 + 64

unfoldable pub session_format : Format Session
session_format =
    via
    (λ t. record { live = t.0; name = t.1.0; copies = t.1.1.0; priority = t.1.1.1.0; medium = t.1.1.1.1.0; destination = t.1.1.1.1.1.0; used = t.1.1.1.1.1.1.0; label = t.1.1.1.1.1.1.1 })
    (λ x. (x.live, (x.name, (x.copies, (x.priority, (x.medium, (x.destination, (x.used, x.label))))))))
    (byte then name_format then byte then byte then byte then byte then byte then array 64 byte)

abbrev pub box_size : ℕ
box_size = 1 + 1 + picture_size

unfoldable pub box_format : Format ImageBox
box_format =
    via
    (λ t. record { position = t.0; polarity = t.1.0; picture = t.1.1 })
    (λ x. (x.position, (x.polarity, x.picture)))
    (byte then byte then picture_format)

abbrev pub layout_size : ℕ
layout_size = 1 + 1 + 6

unfoldable pub layout_format : Format Layout
layout_format =
    via
    (λ t. record { kind = t.0; lines = t.1.0; counts = t.1.1 })
    (λ x. (x.kind, (x.lines, x.counts)))
    (byte then byte then array 6 byte)

abbrev pub film_size : ℕ
film_size = name_size + 1 + layout_size + 1 + 1 + serial_size + most_boxes * box_size

unfoldable pub film_format : Format Film
film_format =
    via
    (λ t. record { name = t.0; session = t.1.0; layout = t.1.1.0; orientation = t.1.1.1.0; magnification = t.1.1.1.1.0; first = t.1.1.1.1.1.0; boxes = t.1.1.1.1.1.1 })
    (λ x. (x.name, (x.session, (x.layout, (x.orientation, (x.magnification, (x.first, x.boxes)))))))
    (name_format then byte then layout_format then byte then byte then serial_format then array most_boxes box_format)

abbrev pub shelf_size : ℕ
shelf_size = 1 + most_films * film_size

unfoldable pub shelf_format : Format Shelf
shelf_format =
    via
    (λ t. record { count = t.0; films = t.1 })
    (λ x. (x.count, x.films))
    (byte then array most_films film_format)

abbrev pub entry_size : ℕ
entry_size = most_boxes * picture_size + 2 + 1 + name_size

unfoldable pub entry_format : Format Entry
entry_format =
    via
    (λ t. record { pictures = t.0; ticket = t.1.0; copies = t.1.1.0; film = t.1.1.1 })
    (λ x. (x.pictures, (x.ticket, (x.copies, x.film))))
    (array most_boxes picture_format then number 2 then byte then name_format)

abbrev pub queue_size : ℕ
queue_size = 1 + most_entries * entry_size

unfoldable pub queue_format : Format Queue
queue_format =
    via
    (λ t. record { count = t.0; entries = t.1 })
    (λ x. (x.count, x.entries))
    (byte then array most_entries entry_format)

-- a next number may be one past the last: five bytes
abbrev pub numbers_size : ℕ
numbers_size = 1 + root_limit + 5 + 5 + 2

unfoldable pub numbers_format : Format Numbers
numbers_format =
    via
    (λ t. record { used = t.0; root = t.1.0; serial = t.1.1.0; picture = t.1.1.1.0; ticket = t.1.1.1.1 })
    (λ x. (x.used, (x.root, (x.serial, (x.picture, x.ticket)))))
    (byte then array root_limit byte then number 5 then number 5 then number 2)

abbrev pub opened_size : ℕ
opened_size = 1 + 1 + 1 + 4

unfoldable pub opened_format : Format Opened
opened_format =
    via
    (λ t. record { live = t.0; context = t.1.0; syntax = t.1.1.0; room = t.1.1.1 })
    (λ x. (x.live, (x.context, (x.syntax, x.room))))
    (byte then byte then byte then number 4)

abbrev pub core_size : ℕ
core_size = numbers_size + most_sessions * session_size + shelf_size + queue_size + opened_size

unfoldable pub core_format : Format Core
core_format =
    via
    (λ t. record { numbers = t.0; sessions = t.1.0; shelf = t.1.1.0; queue = t.1.1.1.0; opened = t.1.1.1.1 })
    (λ x. (x.numbers, (x.sessions, (x.shelf, (x.queue, x.opened)))))
    (numbers_format then array most_sessions session_format then shelf_format then queue_format then opened_format)

abbrev pub input_size : ℕ
input_size = 1 + 2 + 4 + command_limit

unfoldable pub input_format : Format Input
input_format =
    via
    (λ t. record { phase = t.0; used = t.1.0; got = t.1.1.0; command = t.1.1.1 })
    (λ x. (x.phase, (x.used, (x.got, x.command))))
    (byte then number 2 then number 4 then array command_limit byte)

-- how many bytes the records have; the input stands last, so that a fragment need write no more than it
abbrev pub records_size : ℕ
records_size = core_size + input_size

unfoldable pub state_format : Format State
state_format =
    via
    (λ t. record { core = t.0; input = t.1 })
    (λ x. (x.core, x.input))
    (core_format then input_format)

unfoldable pub unpack : List ℕ → State
unpack records = state_format.read records 0

-- the records' bytes
unfoldable pub pack : State → List ℕ
pack state = state_format.bytes state
