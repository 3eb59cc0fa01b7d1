-- Parts of the core written alone, where the core stands already: each is the core with that part anew, written whole.
-- Assumes nothing.
use Prim.Native.Nat.{ℕ, suc, ◌+◌, ◌*◌, ◌-◌, ◌<◌, ◌≤◌}
use mathlib.Core.Path.{◌≡◌, sym, ap, ◌∙◌, subst}
use mathlib.Core.List.{List, [], ◌∷◌, ◌++◌}
use native.Mathlib.Omega.{arith}
use lib.ListN.{length, get_or, set, drop, length-drop}
use Rattle.octets.specs.Octets.{part, laid, octets, Bytes}
use Rattle.octets.proofs.Laid.{Stands, stands_second}
use Rattle.fields.specs.Format.{write, byte, number, ◌then◌, array, bytes_all}
use Rattle.fields.proofs.Laws.{byte_laws, number_laws, array_laws, write_read}
use Rattle.rules.specs.declared.Numbers.{Numbers}
use Rattle.rules.specs.declared.Session.{Session}
use Rattle.rules.specs.declared.ImageBox.{ImageBox}
use Rattle.rules.specs.declared.Film.{Film}
use Rattle.rules.specs.declared.Shelf.{Shelf}
use Rattle.rules.specs.declared.Core.{Core}
use Rattle.rules.specs.Bounds.{most_sessions, most_films, most_boxes, root_limit}
use Rattle.rules.specs.Lists.{without}
use Rattle.rules.specs.Records.{with_numbers, with_sessions, with_session}
use Rattle.rules.specs.Effects.{with_boxes}
use Rattle.rules.specs.Layout.{numbers_size, film_size, box_size, name_size, layout_size, serial_size, records_size, queue_format, opened_format, core_format, numbers_format, session_format, shelf_format, film_format, box_format}
use Rattle.rules.proofs.Sizes.{core_size_lem, numbers_size_lem, sessions_size, film_size_lem, box_size_lem, name_size_lem, layout_size_lem, serial_size_lem}
use Rattle.rules.proofs.Steps.{core_steps, numbers_steps, session_steps, shelf_steps, film_steps, box_steps, name_steps, layout_steps, serial_steps}
use Rattle.records.specs.Places.{shelf_place, queue_place, core_in}
use Rattle.changes.proofs.Writes.{Anew, whole, first, behind, inside, moved, alone, element}
use Rattle.changes.proofs.Moved.{row, row_length, removed, stands_old}

-- The numbers.

abbrev pub with_serial : ℕ → Numbers → Numbers
with_serial m n = record { used = n.used; root = n.root; serial = m; picture = n.picture; ticket = n.ticket }

abbrev pub with_picture : ℕ → Numbers → Numbers
with_picture m n = record { used = n.used; root = n.root; serial = n.serial; picture = m; ticket = n.ticket }

abbrev pub serial_place : ℕ
serial_place = 1 + root_limit

abbrev pub picture_place : ℕ
picture_place = serial_place + 5

module _ (m : ℕ) (n : Numbers) where
  serial_part : Anew (numbers_format.bytes n) (numbers_format.bytes (with_serial m n)) serial_place (octets 5 n.serial) (octets 5 m)
  unfolding numbers_format
  serial_part =
      behind (behind (first (number_laws 5) n.serial m (number 5 then number 2) (n.picture, n.ticket)) (array_laws root_limit byte_laws) n.root) byte_laws n.used

  picture_part : Anew (numbers_format.bytes n) (numbers_format.bytes (with_picture m n)) picture_place (octets 5 n.picture) (octets 5 m)
  unfolding numbers_format
  picture_part =
      behind (behind (behind (first (number_laws 5) n.picture m (number 2) n.ticket) (number_laws 5) n.serial) (array_laws root_limit byte_laws) n.root) byte_laws n.used

-- A film and its boxes.

abbrev pub boxes_place : ℕ
boxes_place = name_size + 1 + layout_size + 1 + 1 + serial_size

abbrev pub box_anew : ℕ → ImageBox → Film → Film
box_anew j b f = with_boxes (set f.boxes j b) f

box_part : (f : Film) (j : ℕ) (b : ImageBox) → j < most_boxes → length f.boxes ≡ most_boxes
    → Anew (film_format.bytes f) (film_format.bytes (box_anew j b f)) (boxes_place + j * box_size) (box_format.bytes (get_or f.boxes j box_format.blank)) (box_format.bytes b)
unfolding film_format
box_part f j b h e =
    moved (behind (behind (behind (behind (behind (behind (element box_steps.laws b f.boxes j most_boxes h (omega arith)) serial_steps.laws f.first) byte_laws f.magnification) byte_laws f.orientation) layout_steps.laws f.layout) byte_laws f.session) name_steps.laws f.name)
    (rw (name_size_lem, layout_size_lem, serial_size_lem, box_size_lem) (omega arith))

-- The shelf.

abbrev pub counting : ℕ → Shelf → Shelf
counting n s = record { count = n; films = s.films }

abbrev pub film_anew : ℕ → Film → Shelf → Shelf
film_anew i f s = record { count = s.count; films = set s.films i f }

count_part : (n : ℕ) (s : Shelf) → Anew (shelf_format.bytes s) (shelf_format.bytes (counting n s)) 0 (s.count ∷ []) (n ∷ [])
unfolding shelf_format
count_part n s = first byte_laws s.count n (array most_films film_format) s.films

film_part : (s : Shelf) (i : ℕ) (f : Film) → i < most_films → length s.films ≡ most_films
    → Anew (shelf_format.bytes s) (shelf_format.bytes (film_anew i f s)) (1 + i * film_size) (film_format.bytes (get_or s.films i film_format.blank)) (film_format.bytes f)
unfolding shelf_format
film_part s i f h e = moved (behind (element film_steps.laws f s.films i most_films h (omega arith)) byte_laws s.count) (rw film_size_lem)

-- without the film at a place, and another at the end
abbrev pub lacking : ℕ → Film → Shelf → Shelf
lacking i z s = record { count = s.count; films = without i s.films ++ (z ∷ []) }

lacking_part : (s : Shelf) (i : ℕ) (z : Film) → i < most_films → length s.films ≡ most_films
    → Anew (shelf_format.bytes s) (shelf_format.bytes (lacking i z s)) (1 + i * film_size) (film_format.bytes (get_or s.films i film_format.blank) ++ row film_format (drop (suc i) s.films)) (row film_format (drop (suc i) s.films) ++ film_format.bytes z)
unfolding shelf_format
lacking_part s i z h e = moved (behind (removed film_steps.laws s.films i most_films z h e) byte_laws s.count) (rw film_size_lem)

-- The core.

abbrev pub with_shelf : Shelf → Core → Core
with_shelf s k = record { numbers = k.numbers; sessions = k.sessions; shelf = s; queue = k.queue; opened = k.opened }

module _ (k : Core) where
  numbers_part : (n : Numbers) → Anew (core_format.bytes k) (core_format.bytes (with_numbers n k)) 0 (numbers_format.bytes k.numbers) (numbers_format.bytes n)
  unfolding core_format
  numbers_part n =
      first numbers_steps.laws k.numbers n (array most_sessions session_format then shelf_format then queue_format then opened_format) (k.sessions, (k.shelf, (k.queue, k.opened)))

  sessions_part : (xs : List Session) → Anew (core_format.bytes k) (core_format.bytes (with_sessions xs k)) numbers_size (bytes_all session_format k.sessions most_sessions) (bytes_all session_format xs most_sessions)
  unfolding core_format
  sessions_part xs =
      moved (behind (first (array_laws most_sessions session_steps.laws) k.sessions xs (shelf_format then queue_format then opened_format) (k.shelf, (k.queue, k.opened))) numbers_steps.laws k.numbers)
      (rw numbers_size_lem)

  session_part : (s : Session) → Anew (core_format.bytes k) (core_format.bytes (with_session 0 s k)) numbers_size (session_format.bytes (get_or k.sessions 0 session_format.blank)) (session_format.bytes s)
  unfolding bytes_all
  session_part s = inside (sessions_part (s ∷ [])) (whole session_steps.laws (get_or k.sessions 0 session_format.blank) s)

  shelf_part : (s : Shelf) → Anew (core_format.bytes k) (core_format.bytes (with_shelf s k)) shelf_place (shelf_format.bytes k.shelf) (shelf_format.bytes s)
  unfolding core_format
  shelf_part s =
      moved (behind (behind (first shelf_steps.laws k.shelf s (queue_format then opened_format) (k.queue, k.opened)) (array_laws most_sessions session_steps.laws) k.sessions) numbers_steps.laws k.numbers)
      (rw (numbers_size_lem, sessions_size))

-- where the films stand
abbrev pub films_place : ℕ
films_place = shelf_place + 1

-- t is b, with this core in place of the one that stands there
module _ (b t : List ℕ) (k : Core) (h : records_size ≤ length b) (e : t ≡ write core_format k b 0) where
  written : {new : List ℕ} {at : ℕ} {was is : List ℕ} → Anew (core_format.bytes k) new at was is → laid t (0 + at) is ≡ laid b 0 new
  unfolding write
  written a = alone a b t 0 (omega (arith, core_steps.laws.sized k, core_size_lem, h)) e

  pub serial_written : (m : ℕ) → write (number 5) m t serial_place ≡ write core_format (with_numbers (with_serial m k.numbers) k) b 0
  unfolding write
  serial_written m = written (inside (numbers_part k (with_serial m k.numbers)) (serial_part m k.numbers))

  pub picture_written : (m : ℕ) → write (number 5) m t picture_place ≡ write core_format (with_numbers (with_picture m k.numbers) k) b 0
  unfolding write
  picture_written m = written (inside (numbers_part k (with_picture m k.numbers)) (picture_part m k.numbers))

  pub session_written : (s : Session) → write session_format s t numbers_size ≡ write core_format (with_session 0 s k) b 0
  unfolding write
  session_written s = written (session_part k s)

  pub shelf_written : (s : Shelf) → write shelf_format s t shelf_place ≡ write core_format (with_shelf s k) b 0
  unfolding write
  shelf_written s = written (shelf_part k s)

  pub count_written : (n : ℕ) → write byte n t shelf_place ≡ write core_format (with_shelf (counting n k.shelf) k) b 0
  unfolding write
  count_written n = written (inside (shelf_part k (counting n k.shelf)) (count_part n k.shelf))

  module _ (i : ℕ) (f : Film) (j : i < most_films) (l : length k.shelf.films ≡ most_films) where
    film_anew_lem : Anew (core_format.bytes k) (core_format.bytes (with_shelf (film_anew i f k.shelf) k)) (shelf_place + (1 + i * film_size)) (film_format.bytes (get_or k.shelf.films i film_format.blank)) (film_format.bytes f)
    film_anew_lem = inside (shelf_part k (film_anew i f k.shelf)) (film_part k.shelf i f j l)

    pub film_written : write film_format f t (films_place + i * film_size) ≡ write core_format (with_shelf (film_anew i f k.shelf) k) b 0
    unfolding write
    film_written =
        let e : films_place + i * film_size ≡ 0 + (shelf_place + (1 + i * film_size)) = omega arith in
        ap (λ (n : ℕ). laid t n (film_format.bytes f)) e ∙ written film_anew_lem

  -- the films behind one, each a place further down, and another at the end
  module _ (i : ℕ) (z : Film) (j : i < most_films) (l : length k.shelf.films ≡ most_films) where
    abbrev pub further : List ℕ
    further = row film_format (drop (suc i) k.shelf.films)

    abbrev gone : List ℕ
    gone = film_format.bytes (get_or k.shelf.films i film_format.blank)

    place : 0 + (shelf_place + (1 + i * film_size)) ≡ films_place + i * film_size
    place = omega arith

    lacking_anew : Anew (core_format.bytes k) (core_format.bytes (with_shelf (lacking i z k.shelf) k)) (shelf_place + (1 + i * film_size)) (gone ++ further) (further ++ film_format.bytes z)
    lacking_anew = inside (shelf_part k (lacking i z k.shelf)) (lacking_part k.shelf i z j l)

    pub lacking_written : laid t (films_place + i * film_size) (further ++ film_format.bytes z) ≡ write core_format (with_shelf (lacking i z k.shelf) k) b 0
    unfolding write
    lacking_written = ap (λ (n : ℕ). laid t n (further ++ film_format.bytes z)) (sym place) ∙ written lacking_anew

    pub further_length : length further ≡ (7 - i) * film_size
    further_length =
        row_length film_steps.laws (drop (suc i) k.shelf.films)
        ∙ rw (length-drop, film_size_lem) (omega arith)

    pub further_stands : part t (films_place + i * film_size + film_size) queue_place ≡ further
    unfolding write
    further_stands =
        let s : Stands t (films_place + i * film_size) (gone ++ further) = subst (λ (n : ℕ). Stands t n (gone ++ further)) place (stands_old lacking_anew b t 0 (omega (arith, core_steps.laws.sized k, core_size_lem, h)) e) in
        let g : length gone ≡ film_size = film_steps.laws.sized (get_or k.shelf.films i film_format.blank) ∙ film_size_lem in
        let from : films_place + i * film_size + film_size ≡ films_place + i * film_size + length gone = omega (arith, g) in
        let stop : queue_place ≡ films_place + i * film_size + length gone + length further = omega (arith, g, further_length) in
        ap (λ (n : ℕ). part t n queue_place) from ∙ ap (λ (n : ℕ). part t (films_place + i * film_size + length gone) n) stop ∙ stands_second t (films_place + i * film_size) gone further s

  -- a box of the film at a place
  pub box_written : (i : ℕ) (f : Film) (j : ℕ) (x : ImageBox) → i < most_films → length k.shelf.films ≡ most_films → j < most_boxes → length f.boxes ≡ most_boxes
      → f ≡ get_or k.shelf.films i film_format.blank
      → write box_format x t (films_place + i * film_size + boxes_place + j * box_size) ≡ write core_format (with_shelf (film_anew i (box_anew j x f) k.shelf) k) b 0
  unfolding write
  box_written i f j x u l v m g =
      let e : films_place + i * film_size + boxes_place + j * box_size ≡ 0 + (shelf_place + (1 + i * film_size) + (boxes_place + j * box_size)) = omega arith in
      let y = box_anew j x f in
      let a = subst (λ (w : Film). Anew (core_format.bytes k) (core_format.bytes (with_shelf (film_anew i y k.shelf) k)) (shelf_place + (1 + i * film_size)) (film_format.bytes w) (film_format.bytes y)) (sym g) (film_anew_lem i y u l) in
      ap (λ (n : ℕ). laid t n (box_format.bytes x)) e ∙ written (inside a (box_part f j x v m))

-- what stands there is the core that is read
pub held : (b : List ℕ) → Bytes b → records_size ≤ length b → b ≡ write core_format (core_in b) b 0
held b o h = sym (write_read core_steps.laws b 0 o (omega (arith, core_size_lem, h)))
