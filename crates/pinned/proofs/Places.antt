-- The records in bytes: each field is read and written at its place.
-- Assumes nothing.
use mathlib.Core.Path.{refl}
use mathlib.Core.List.{List, [], ◌∷◌, ◌++◌, map}
use Prim.Native.Nat.{ℕ, zero, suc, ◌+◌, ◌*◌, ◌-◌, ◌%◌}
use lib.ListN.{length, get_or, drop, replicate}
use Rattle.strike.specs.Machine.{idle, in_data}
use Rattle.rules.specs.declared.Name.{Name}
use Rattle.rules.specs.declared.Layout.{Layout}
use Rattle.rules.specs.declared.ImageBox.{ImageBox}
use Rattle.rules.specs.declared.Film.{Film}
use Rattle.rules.specs.declared.Session.{Session}
use Rattle.rules.specs.declared.Numbers.{Numbers}
use Rattle.rules.specs.declared.Opened.{Opened}
use Rattle.rules.specs.declared.Entry.{Entry}
use Rattle.rules.specs.declared.Input.{Input}
use Rattle.rules.specs.declared.State.{State}
use Rattle.rules.specs.Lists.{from}
use Rattle.rules.specs.Records.{picture, no_box, no_film, no_entry, the_session}
use Rattle.rules.specs.Layout.{unpack, pack}
use Rattle.rules.specs.Outcomes as outcomes
use Rattle.rules.specs.Outcomes.{core_written}
use Rattle.rules.proofs.Book.{the_book}
use Rattle.rules.proofs.Stage.{nothing_live, Example, gives, AllHold}

-- A field: how many bytes are looked at, how many there are up to the next field, and its value. Widths are written out here, and
-- not taken from the book's sizes, so that a wrong format is noticed.
record Field (A : Type 0) : Type 0 where
  looked : ℕ
  bytes : ℕ
  value : A → ℕ

abbrev number : {A : Type 0} → ℕ → (A → ℕ) → Field A
number bytes value = record { looked = bytes; bytes = bytes; value = value }

-- an array of bytes, of which the first is looked at
abbrev text : {A : Type 0} → ℕ → (A → List ℕ) → Field A
text bytes value = record { looked = 1; bytes = bytes; value = λ x. get_or (value x) 0 0 }

-- so many bytes that are not looked at
abbrev others : {A : Type 0} → ℕ → Field A
others bytes = record { looked = 0; bytes = bytes; value = λ x. 0 }

-- the fields of a part
abbrev of : {A B : Type 0} → (B → A) → List (Field A) → List (Field B)
of part = map (λ f. record { looked = f.looked; bytes = f.bytes; value = λ x. f.value (part x) })

abbrev name_fields : List (Field Name)
name_fields =
    number 4 (λ n. n.made.0)
    ∷ number 1 (λ n. n.used)
    ∷ text 64 (λ n. n.text)
    ∷ []

abbrev numbers_fields : List (Field Numbers)
numbers_fields =
    number 1 (λ n. n.used)
    ∷ text 40 (λ n. n.root)
    ∷ number 5 (λ n. n.serial)
    ∷ number 5 (λ n. n.picture)
    ∷ number 2 (λ n. n.ticket)
    ∷ []

abbrev session_fields : List (Field Session)
session_fields =
    number 1 (λ s. s.live)
    ∷ of (λ s. s.name) name_fields
    ++ (number 1 (λ s. s.copies)
    ∷ number 1 (λ s. s.priority)
    ∷ number 1 (λ s. s.medium)
    ∷ number 1 (λ s. s.destination)
    ∷ number 1 (λ s. s.used)
    ∷ text 64 (λ s. s.label)
    ∷ [])

abbrev layout_fields : List (Field Layout)
layout_fields =
    number 1 (λ l. l.kind)
    ∷ number 1 (λ l. l.lines)
    ∷ map (λ i. number 1 (λ l. get_or l.counts i 0)) (from 0 6)

abbrev box_fields : List (Field ImageBox)
box_fields =
    number 1 (λ b. b.position)
    ∷ number 1 (λ b. b.polarity)
    ∷ number 4 (λ b. b.picture.0)
    ∷ []

-- of the boxes the first, the second and the last
abbrev film_fields : List (Field Film)
film_fields =
    of (λ f. f.name) name_fields
    ++ (number 1 (λ f. f.session)
    ∷ of (λ f. f.layout) layout_fields
    ++ (number 1 (λ f. f.orientation)
    ∷ number 1 (λ f. f.magnification)
    ∷ number 4 (λ f. f.first.0)
    ∷ of (λ f. get_or f.boxes 0 no_box) box_fields
    ++ (of (λ f. get_or f.boxes 1 no_box) box_fields
    ++ (others (33 * 6)
    ∷ of (λ f. get_or f.boxes 35 no_box) box_fields))))

-- of the pictures the first, the second and the last
abbrev entry_fields : List (Field Entry)
entry_fields =
    number 4 (λ e. (get_or e.pictures 0 (picture 0)).0)
    ∷ number 4 (λ e. (get_or e.pictures 1 (picture 0)).0)
    ∷ others (33 * 4)
    ∷ number 4 (λ e. (get_or e.pictures 35 (picture 0)).0)
    ∷ number 2 (λ e. e.ticket)
    ∷ number 1 (λ e. e.copies)
    ∷ of (λ e. e.film) name_fields

abbrev opened_fields : List (Field Opened)
opened_fields =
    number 1 (λ o. o.live)
    ∷ number 1 (λ o. o.context)
    ∷ number 1 (λ o. o.syntax)
    ∷ number 4 (λ o. o.room)
    ∷ []

abbrev input_fields : List (Field Input)
input_fields =
    number 1 (λ i. i.phase)
    ∷ number 2 (λ i. i.used)
    ∷ number 4 (λ i. i.got)
    ∷ text 1024 (λ i. i.command)
    ∷ []

abbrev size : {A : Type 0} → List (Field A) → ℕ
size [] = 0
size (f ∷ fs) = f.bytes + size fs

-- the second film and the second entry stand for all
abbrev fields : List (Field State)
fields =
    of (λ s. s.core.numbers) numbers_fields
    ++ (of (λ s. the_session s.core) session_fields
    ++ (number 1 (λ s. s.core.shelf.count)
    ∷ others (size film_fields)
    ∷ of (λ s. get_or s.core.shelf.films 1 no_film) film_fields
    ++ (others (6 * size film_fields)
    ∷ number 1 (λ s. s.core.queue.count)
    ∷ others (size entry_fields)
    ∷ of (λ s. get_or s.core.queue.entries 1 no_entry) entry_fields
    ++ (others (14 * size entry_fields)
    ∷ of (λ s. s.core.opened) opened_fields
    ++ of (λ s. s.input) input_fields))))

-- where the input begins, and the end
abbrev input_place : ℕ
input_place = size fields - size input_fields

abbrev end : ℕ
end = size fields

-- Records of which each byte is its own place, but for multiples of 256.

abbrev unpacked : State
unpacked = unpack (map (λ place. place % 256) (from 0 end))

-- the number that so many of these bytes are, the least first
abbrev little_endian : ℕ → ℕ → ℕ
little_endian place zero = 0
little_endian place (suc bytes) = place % 256 + 256 * little_endian (place + 1) bytes

-- what each field, one behind the other from a place on, holds in them
abbrev standing : ℕ → List (Field State) → List ℕ
standing at [] = []
standing at (f ∷ fs) = little_endian at f.looked ∷ standing (at + f.bytes) fs

abbrev lengths : State → List ℕ
lengths s =
    let session = the_session s.core in
    let film = get_or s.core.shelf.films 1 no_film in
    let entry = get_or s.core.queue.entries 1 no_entry in
    length s.core.numbers.root ∷ length session.name.text ∷ length session.label ∷ length s.core.shelf.films ∷ length film.layout.counts
    ∷ length film.boxes ∷ length s.core.queue.entries ∷ length entry.pictures ∷ length s.input.command ∷ []

-- the place of each field, one behind the other from a place on
abbrev placed : ℕ → List (Field State) → List ℕ
placed at [] = []
placed at (f ∷ fs) = at ∷ placed (at + f.bytes) fs

abbrev bytes_at : List ℕ → List ℕ → List ℕ
bytes_at places s = map (λ at. get_or s at 0) places

abbrev places : List Example
places =
    gives (map (λ f. f.value unpacked) fields) (standing 0 fields)
    ∷ gives (lengths unpacked) (40 ∷ 64 ∷ 64 ∷ 8 ∷ 6 ∷ 36 ∷ 16 ∷ 36 ∷ 1024 ∷ [])
    ∷ gives (bytes_at (placed 0 fields) (pack unpacked)) (map (λ place. place % 256) (placed 0 fields))
    ∷ gives (length (pack unpacked) ∷ []) (end ∷ [])
    ∷ []

pub places_hold : AllHold places
unfolding the_book
places_hold = (refl, (refl, (refl, (refl, tt))))

-- Records over longer ones.

-- 4s, and two bytes behind them
abbrev longer : List ℕ
longer = replicate end 4 ++ (8 ∷ 9 ∷ [])

-- the state, how much of a command and of data there is, and the command's first byte
abbrev input_bytes : List ℕ → List ℕ
input_bytes = bytes_at (map (λ at. input_place + at) (0 ∷ 1 ∷ 3 ∷ 7 ∷ []))

abbrev written : List Example
written =
    -- bytes past the records stay, after any call
    gives (drop end (outcomes.written (record { core = nothing_live; input = idle }) longer) ++ drop end (core_written nothing_live longer)) (8 ∷ 9 ∷ 8 ∷ 9 ∷ [])
    -- the input half collected is written, and by a take kept
    ∷ gives (input_bytes (outcomes.written (record { core = nothing_live; input = in_data (7 ∷ []) (5 ∷ 5 ∷ []) }) longer)) (3 ∷ 1 ∷ 2 ∷ 7 ∷ [])
    ∷ gives (get_or (core_written nothing_live longer) 0 0 ∷ input_bytes (core_written nothing_live longer)) (5 ∷ 4 ∷ 4 ∷ 4 ∷ 4 ∷ [])
    ∷ []

pub written_hold : AllHold written
unfolding the_book
written_hold = (refl, (refl, (refl, tt)))
