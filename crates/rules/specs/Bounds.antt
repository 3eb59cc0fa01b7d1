-- Numbers that bound it: chapter 2 of the rules (docs/RULES.md).
use Rattle.std.specs.Prelude.{ℕ, ◌+◌, ◌*◌}

-- the message buffer, in bytes
abbrev pub least_room : ℕ
least_room = 4096

abbrev pub most_room : ℕ
most_room = 16777216

-- the answer buffers, in bytes
abbrev pub command_room : ℕ
command_room = 256

abbrev pub data_room : ℕ
data_room = 8192

abbrev pub report_room : ℕ
report_room = 20

-- places for sessions
abbrev pub most_sessions : ℕ
most_sessions = 1

abbrev pub most_films : ℕ
most_films = 8

abbrev pub most_boxes : ℕ
most_boxes = 36

abbrev pub most_entries : ℕ
most_entries = 16

-- an entry that is taken: where its ticket, copies and UID stand behind the pictures, and its end
abbrev pub ticket_place : ℕ
ticket_place = most_boxes * 4

abbrev pub copies_place : ℕ
copies_place = ticket_place + 2

abbrev pub uid_place : ℕ
uid_place = copies_place + 2

abbrev pub entry_room : ℕ
entry_room = uid_place + 64

abbrev pub root_limit : ℕ
root_limit = 40

-- serials and picture numbers are below this
abbrev pub none_left : ℕ
none_left = 4294967296

abbrev pub tickets : ℕ
tickets = 65536
