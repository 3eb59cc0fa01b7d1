-- Records that keep their rules, with arrays of their lengths, fit their fields: packed and unpacked, they are the same.
-- Assumes nothing.
use Prim.Native.Nat.{ℕ, suc, ◌+◌, ◌<◌, ◌≤◌}
use mathlib.Core.Path.{◌≡◌, refl, subst, sym, ap, ◌∙◌}
use mathlib.Core.Bool.{Bool, true, false}
use mathlib.Core.List.{List, [], ◌∷◌, ◌++◌, append_assoc}
use native.Mathlib.Omega.{arith}
use lib.Dec.{eqb, leb, ltb}
use lib.ListN.{length, length-take, get_or, take, drop}
use borrow.Author.Tests.{leb-true, ltb-true, eqb-true}
use Rattle.choice.specs.Pick.{pick, both, either, not}
use Rattle.choice.proofs.Picks.{both_true}
use Rattle.octets.specs.Octets.{Bytes}
use Rattle.octets.proofs.Same.{same_equal}
use Rattle.uids.specs.Uids.{digits, component, components, is_uid}
use Rattle.fields.specs.Format.{Format, byte, array, write}
use Rattle.fields.proofs.Laws.{read_write}
use Rattle.strike.specs.Machine as machine
use Rattle.strike.specs.Machine.{command_limit, idle, in_command, skipping_command, in_data, skipping_data, Records}
use Rattle.rules.specs.Bounds.{least_room, most_room, most_films, most_boxes, most_entries, root_limit, none_left, most_sessions}
use Rattle.rules.specs.declared.Picture.{Picture}
use Rattle.rules.specs.declared.Name.{Name}
use Rattle.rules.specs.declared.Session.{Session}
use Rattle.rules.specs.declared.ImageBox.{ImageBox}
use Rattle.rules.specs.declared.Layout.{Layout}
use Rattle.rules.specs.declared.Film.{Film}
use Rattle.rules.specs.declared.Shelf.{Shelf}
use Rattle.rules.specs.declared.Entry.{Entry}
use Rattle.rules.specs.declared.Queue.{Queue}
use Rattle.rules.specs.declared.Numbers.{Numbers}
use Rattle.rules.specs.declared.Opened.{Opened}
use Rattle.rules.specs.declared.Core.{Core}
use Rattle.rules.specs.declared.Input.{Input}
use Rattle.rules.specs.Lists.{every, filled_to}
use Rattle.rules.specs.Values.{trimmed, label_byte, label_allowed, kind_col}
use Rattle.rules.specs.Records.{root_of, box_count, boxes_of, films_of, entries_of, is_live, sessions_of, no_session}
use Rattle.rules.specs.Sound.{between, zeros, flag, name_sound, sent_sound, made_sound, name_blank, numbers_sound, session_sound, session_blank, layout_sound, box_sound, box_blank, film_sound, film_blank, shelf_sound, entry_sound, entry_blank, queue_sound, open_sound, opened_sound, core_sound, session_place_sound, has_session}
use Rattle.rules.specs.Layout.{serial_format, picture_format, name_format, session_format, box_format, layout_format, film_format, shelf_format, entry_format, queue_format, numbers_format, opened_format, core_format, input_format, state_format, records_size, unpack, pack}
use Rattle.rules.specs.Outcomes.{held, input_held, written}
use Rattle.rules.proofs.Sizes.{records_size_lem}
use Rattle.promises.proofs.Packed.{state_laws}
use Rattle.promises.proofs.ListLaws.{all_true, Each, each_at, each_append, each_take, each_drop, each_join, each_filled, each_told, each_so, filled_length, places_read}
use Rattle.promises.proofs.Facts.{between_true, core_facts, numbers_facts, shelf_facts, queue_facts, LabelFacts, session_facts, box_facts, film_facts}
use Rattle.promises.proofs.Layouts.{boxes_most, sum_between}
use Rattle.promises.proofs.Kept.{state_of}
use Rattle.promises.proofs.Sized.{NameSized, SessionSized, FilmSized, ShelfSized, EntrySized, QueueSized, NumbersSized, Sized, SessionsSized}
use Rattle.promises.proofs.Places.{place_there}

-- Arrays.

pub good_array : {A : Type 0} (f : Format A) (n : ℕ) (xs : List A) → length xs ≡ n → Each f.Good xs → (array n f).Good xs
good_array f n xs e h = (e, λ i k. each_at f.Good xs i f.blank h (omega arith))

-- Bytes.

abbrev pub Byte : ℕ → Type 0
Byte b = b < 256

zero_bytes : (s : List ℕ) → zeros s ≡ true → Each Byte s
zero_bytes s e = each_told Byte (λ (b : ℕ). eqb b 0) (λ b h. let z = eqb-true b 0 h in omega arith) s e

digit_bytes : (s : List ℕ) → digits s ≡ true → Each Byte s
unfolding digits
digit_bytes [] e = tt
digit_bytes (c ∷ s) e =
    let t = both_true (both (leb 48 c) (leb c 57)) (digits s) e in
    let h = leb-true c 57 (both_true (leb 48 c) (leb c 57) t.0).1 in
    (omega arith, digit_bytes s t.1)

component_bytes : (s : List ℕ) → component s ≡ true → Each Byte s
unfolding component
component_bytes s e =
    let number = either (eqb (length s) 1) (not (eqb (get_or s 0 0) 48)) in
    let t = both_true (not (eqb (length s) 0)) (both (digits s) number) e in
    digit_bytes s (both_true (digits s) number t.1).0

past_dot : (front : List ℕ) (c : ℕ) (s : List ℕ) (dot : Bool) → eqb c 46 ≡ dot → (components [] s ≡ true → Each Byte s) → (components (front ++ (c ∷ [])) s ≡ true → Each Byte ((front ++ (c ∷ [])) ++ s)) → pick dot (both (component front) (components [] s)) (components (front ++ (c ∷ [])) s) ≡ true → Each Byte (front ++ (c ∷ s))
past_dot front c s true e f g h =
    let t = both_true (component front) (components [] s) h in
    let z = eqb-true c 46 e in
    each_append Byte front (c ∷ s) (component_bytes front t.0) (omega arith, f t.1)
past_dot front c s false e f g h = subst (Each Byte) (append_assoc front (c ∷ []) s) (g h)

parted_bytes : (front s : List ℕ) → components front s ≡ true → Each Byte (front ++ s)
unfolding components
parted_bytes front [] e = each_append Byte front [] (component_bytes front e) tt
parted_bytes front (c ∷ s) e = past_dot front c s (eqb c 46) refl (parted_bytes [] s) (parted_bytes (front ++ (c ∷ [])) s) e

-- a UID is of digits and dots
pub uid_bytes_lem : (s : List ℕ) → is_uid s ≡ true → Each Byte s
unfolding is_uid
uid_bytes_lem s e = parted_bytes [] s (both_true (leb (length s) 64) (components [] s) e).1

-- Numbers.

pub good_numbers : (n : Numbers) → numbers_sound n ≡ true → NumbersSized n → numbers_format.Good n
unfolding numbers_format root_of
good_numbers n e s =
    let t = numbers_facts n e in
    let used = (between_true 1 root_limit n.used t.used).1 in
    let serial = (between_true 1 none_left n.serial t.serial).1 in
    let picture = (between_true 1 none_left n.picture t.picture).1 in
    let ticket = s.ticket in (
      omega arith,
      (
        good_array byte root_limit n.root s.root (each_join Byte n.used n.root (uid_bytes_lem (take n.used n.root) t.root) (zero_bytes (drop n.used n.root) t.behind)),
        (omega arith, (omega arith, omega arith)),
      ),
    )

-- Names.

name_fits : (name : Name) → name.made.0 < 4294967296 → name.used < 256 → Each Byte name.text → NameSized name → name_format.Good name
unfolding name_format serial_format
name_fits name h k b s = (h, (k, good_array byte 64 name.text s b))

sent_fits : (n : Numbers) (name : Name) → eqb name.made.0 0 ≡ true → sent_sound n name ≡ true → NameSized name → name_format.Good name
sent_fits n name m e s =
    let z = eqb-true name.made.0 0 m in
    let t = all_true _ e in
    let used = (between_true 1 64 name.used t.0).1 in
    name_fits name (omega arith) (omega arith)
    (each_join Byte name.used name.text (uid_bytes_lem (take name.used name.text) t.1.0) (zero_bytes (drop name.used name.text) t.1.1.1.0))
    s

made_fits : (n : Numbers) (name : Name) → n.serial ≤ none_left → made_sound n name ≡ true → NameSized name → name_format.Good name
made_fits n name h e s =
    let t = all_true _ e in
    let below = ltb-true name.made.0 n.serial t.0 in
    let used = eqb-true name.used 0 t.1.0 in
    name_fits name (omega arith) (omega arith) (zero_bytes name.text t.1.1.0) s

name_cases : (n : Numbers) (name : Name) (sent : Bool) → eqb name.made.0 0 ≡ sent → n.serial ≤ none_left → pick sent (sent_sound n name) (made_sound n name) ≡ true → NameSized name → name_format.Good name
name_cases n name true m h e s = sent_fits n name m e s
name_cases n name false m h e s = made_fits n name h e s

pub good_name : (n : Numbers) (name : Name) → n.serial ≤ none_left → name_sound n name ≡ true → NameSized name → name_format.Good name
unfolding name_sound
good_name n name h e s = name_cases n name (eqb name.made.0 0) refl h e s

pub good_no_name : (name : Name) → name_blank name ≡ true → NameSized name → name_format.Good name
good_no_name name e s =
    let t = all_true _ e in
    let made = eqb-true name.made.0 0 t.0 in
    let used = eqb-true name.used 0 t.1.0 in
    name_fits name (omega arith) (omega arith) (zero_bytes name.text t.1.1.0) s

-- The session.

label_bytes : (used : ℕ) (label : List ℕ) → LabelFacts used label → Each Byte label
unfolding label_allowed
label_bytes used label f =
    let front = take used label in
    let allowed = (both_true (leb (length (trimmed front)) 64) (every label_byte (trimmed front)) f.allowed).1 in
    let small : (c : ℕ) → label_byte c ≡ true → c < 256 = λ c e.
    (let h = leb-true c 0x7E (both_true (leb c 0x7E) (not (eqb c 0x5C)) (both_true (leb 0x20 c) (both (leb c 0x7E) (not (eqb c 0x5C))) e).1).0 in omega arith) in
    each_join Byte used label
    (subst (Each Byte) (same_equal (trimmed front) front f.bare) (each_told Byte label_byte small (trimmed front) allowed))
    (zero_bytes (drop used label) f.behind)

live_fits : (n : Numbers) (s : Session) → n.serial ≤ none_left → s.live ≤ 1 → session_sound n s ≡ true → SessionSized s → session_format.Good s
unfolding session_format
live_fits n s h live e z =
    let t = session_facts n s e in
    let copies = (between_true 1 99 s.copies t.1.copies).1 in
    let priority = leb-true s.priority 2 t.1.priority in
    let medium = leb-true s.medium 2 t.1.medium in
    let destination = leb-true s.destination 1 t.1.destination in
    let used = leb-true s.used 64 t.1.label.short in
    let name = good_name n s.name h t.0 z.name in
    let label = good_array byte 64 s.label z.label (label_bytes s.used s.label t.1.label) in
    search arith

no_session_fits : (s : Session) → s.live ≤ 1 → session_blank s ≡ true → SessionSized s → session_format.Good s
unfolding session_format
no_session_fits s live e z =
    let t = all_true _ e in
    let numbers = zero_bytes _ t.1.0 in
    let name = good_no_name s.name t.0 z.name in
    let label = good_array byte 64 s.label z.label (zero_bytes s.label t.1.1.0) in
    search arith

session_cases : (n : Numbers) (s : Session) (live : Bool) → n.serial ≤ none_left → s.live ≤ 1 → pick live (session_sound n s) (session_blank s) ≡ true → SessionSized s → session_format.Good s
session_cases n s true h k e z = live_fits n s h k e z
session_cases n s false h k e z = no_session_fits s k e z

pub good_session : (n : Numbers) (s : Session) → n.serial ≤ none_left → session_place_sound n s ≡ true → SessionSized s → session_format.Good s
good_session n s h e z =
    let b = both_true (flag s.live) (pick (is_live s) (session_sound n s) (session_blank s)) e in
    session_cases n s (is_live s) h (leb-true s.live 1 b.0) b.1 z

good_sessions : (k : Core) → k.numbers.serial ≤ none_left → every (session_place_sound k.numbers) (sessions_of k) ≡ true → SessionsSized k.sessions → (array most_sessions session_format).Good k.sessions
good_sessions k h e z =
    let all-places = places_read most_sessions k.sessions no_session z.places in
    good_array session_format most_sessions k.sessions z.places
    (each_so SessionSized (session_place_sound k.numbers) session_format.Good (λ s t y. good_session k.numbers s h t y) k.sessions (ap (every (session_place_sound k.numbers)) (sym all-places) ∙ e) z.each)

-- Layouts.

-- as many lines as there may be, and as many boxes in each
pub record LayoutFacts (l : Layout) : Type 0 where
  pub kind : l.kind ≤ kind_col
  pub lines : (1 ≤ l.lines) × (l.lines ≤ 6)
  pub counts : every (between 1 6) (take l.lines l.counts) ≡ true
  pub behind : zeros (drop l.lines l.counts) ≡ true

pub layout_facts : (l : Layout) → layout_sound l ≡ true → LayoutFacts l
unfolding layout_sound
layout_facts l e =
    let t = all_true _ e in
    record { kind = leb-true l.kind kind_col t.0; lines = between_true 1 6 l.lines t.1.0; counts = t.1.1.0; behind = t.1.1.1.0 }

-- a film has a box, and no more than there are places
pub box_count_lem : (l : Layout) → layout_sound l ≡ true → length l.counts ≡ 6 → (1 ≤ box_count l) × (box_count l ≤ most_boxes)
unfolding box_count
box_count_lem l e z =
    let t = layout_facts l e in
    let n = length-take l.lines l.counts in
    let low = (sum_between (take l.lines l.counts) t.counts).0 in
    (omega (arith, t.lines.0), boxes_most l e)

pub good_layout : (l : Layout) → layout_sound l ≡ true → length l.counts ≡ 6 → layout_format.Good l
unfolding layout_format
good_layout l e z =
    let t = layout_facts l e in
    let counts =
    good_array byte 6 l.counts z
    (each_join Byte l.lines l.counts
    (each_told Byte (between 1 6) (λ x h. let most = (between_true 1 6 x h).1 in omega arith) (take l.lines l.counts) t.counts)
    (zero_bytes (drop l.lines l.counts) t.behind)) in
    search arith

-- Pictures and boxes.

good_picture : (n : Numbers) (p : Picture) → n.picture ≤ none_left → ltb p.0 n.picture ≡ true → picture_format.Good p
unfolding picture_format
good_picture n p h e = let k = ltb-true p.0 n.picture e in omega arith

good_no_picture : (p : Picture) → eqb p.0 0 ≡ true → picture_format.Good p
unfolding picture_format
good_no_picture p e = let z = eqb-true p.0 0 e in omega arith

pub good_box : (boxes : ℕ) (n : Numbers) (b : ImageBox) → boxes ≤ most_boxes → n.picture ≤ none_left → box_sound boxes n b ≡ true → box_format.Good b
unfolding box_format picture_format
good_box boxes n b h k e =
    let t = box_facts boxes n b e in
    let position = (between_true 1 boxes b.position t.0).1 in
    let polarity = leb-true b.polarity 1 t.1 in
    let picture = ltb-true b.picture.0 n.picture t.2 in
    search arith

pub good_no_box : (b : ImageBox) → box_blank b ≡ true → box_format.Good b
unfolding box_format picture_format
good_no_box b e =
    let numbers = zero_bytes _ e in
    search arith

-- Films.

pub good_film : (n : Numbers) (f : Film) → n.serial ≤ none_left → n.picture ≤ none_left → Byte f.session → film_sound n f ≡ true → FilmSized f → film_format.Good f
unfolding film_format serial_format boxes_of
good_film n f h k own e z =
    let t = film_facts n f e in
    let count = box_count f.layout in
    let some = box_count_lem f.layout t.layout z.counts in
    let orientation = leb-true f.orientation 1 t.orientation in
    let magnification = leb-true f.magnification 3 t.magnification in
    let last = leb-true (f.first.0 + count) n.serial t.last in
    let name = good_name n f.name h t.name z.name in
    let layout = good_layout f.layout t.layout z.counts in
    let boxes =
    good_array box_format most_boxes f.boxes z.boxes
    (each_join box_format.Good count f.boxes
    (each_told box_format.Good (box_sound count n) (λ b s. good_box count n b some.1 k s) (take count f.boxes) t.boxes)
    (each_told box_format.Good box_blank good_no_box (drop count f.boxes) t.behind)) in
    search arith

pub good_no_film : (f : Film) → film_blank f ≡ true → FilmSized f → film_format.Good f
unfolding film_format serial_format layout_format
good_no_film f e z =
    let t = all_true _ e in
    let numbers = zero_bytes _ t.1.0 in
    let name = good_no_name f.name t.0 z.name in
    let counts = good_array byte 6 f.layout.counts z.counts (zero_bytes f.layout.counts t.1.1.0) in
    let boxes = good_array box_format most_boxes f.boxes z.boxes (each_told box_format.Good box_blank good_no_box f.boxes t.1.1.1.0) in
    search arith

pub good_shelf : (n : Numbers) (sessions : List Session) (shelf : Shelf) → length sessions ≤ 256 → n.serial ≤ none_left → n.picture ≤ none_left → shelf_sound n sessions shelf ≡ true → ShelfSized shelf → shelf_format.Good shelf
unfolding shelf_format films_of
good_shelf n sessions shelf places h k e z =
    let t = shelf_facts n sessions shelf e in
    let few = leb-true shelf.count most_films t.count in
    let front = take shelf.count shelf.films in
    let behind = drop shelf.count shelf.films in
    let Fits : Film → Type 0 = λ f. FilmSized f × Byte f.session in
    let fit : Each Fits front = each_so FilmSized (has_session sessions) Fits (λ f o s. (s, omega (arith, place_there sessions f.session o))) front t.owned (each_take FilmSized shelf.count shelf.films z.each) in (
      omega arith,
      good_array film_format most_films shelf.films z.films
          (each_join film_format.Good shelf.count shelf.films
          (each_so Fits (film_sound n) film_format.Good (λ f s p. good_film n f h k p.1 s p.0) front t.films fit)
          (each_so FilmSized film_blank film_format.Good good_no_film behind t.behind (each_drop FilmSized shelf.count shelf.films z.each))),
    )

-- The queue.

pub good_entry : (n : Numbers) (x : Entry) → n.serial ≤ none_left → n.picture ≤ none_left → entry_sound n x ≡ true → EntrySized x → entry_format.Good x
unfolding entry_format entry_sound
good_entry n x h k e z =
    let below : Picture → Bool = λ (p : Picture). ltb p.0 n.picture in
    let t = all_true _ e in
    let pictures = good_array picture_format most_boxes x.pictures z.pictures (each_told picture_format.Good below (λ p s. good_picture n p k s) x.pictures t.0) in
    let copies = (between_true 1 99 x.copies t.1.0).1 in
    let film = good_name n x.film h t.1.1.0 z.film in
    search arith

pub good_no_entry : (x : Entry) → entry_blank x ≡ true → EntrySized x → entry_format.Good x
unfolding entry_format
good_no_entry x e z =
    let zero-picture : Picture → Bool = λ (p : Picture). eqb p.0 0 in
    let t = all_true _ e in
    let pictures = good_array picture_format most_boxes x.pictures z.pictures (each_told picture_format.Good zero-picture good_no_picture x.pictures t.0) in
    let numbers = zero_bytes _ t.1.0 in
    let film = good_no_name x.film t.1.1.0 z.film in
    search arith

pub good_queue : (n : Numbers) (q : Queue) → n.serial ≤ none_left → n.picture ≤ none_left → queue_sound n q ≡ true → QueueSized q → queue_format.Good q
unfolding queue_format entries_of
good_queue n q h k e z =
    let t = queue_facts n q e in
    let few = leb-true q.count most_entries t.count in
    let front = take q.count q.entries in
    let behind = drop q.count q.entries in (
      omega arith,
      good_array entry_format most_entries q.entries z.entries
          (each_join entry_format.Good q.count q.entries
          (each_so EntrySized (entry_sound n) entry_format.Good (λ x. good_entry n x h k) front t.entries (each_take EntrySized q.count q.entries z.each))
          (each_so EntrySized entry_blank entry_format.Good good_no_entry behind t.behind (each_drop EntrySized q.count q.entries z.each))),
    )

-- What open fixed.

opened_cases : (o : Opened) (closed : Bool) → o.live ≤ 1 → pick closed (zeros (o.context ∷ o.syntax ∷ o.room ∷ [])) (open_sound o) ≡ true → opened_format.Good o
unfolding opened_format
opened_cases o true h e =
    let v = zero_bytes (o.context ∷ o.syntax ∷ o.room ∷ []) e in
    (omega arith, (v.0, (v.1.0, omega (arith, v.1.1.0))))
opened_cases o false h e =
    let t = all_true _ e in
    let context = leb-true o.context 255 t.1.0 in
    let syntax = (between_true 1 2 o.syntax t.1.1.0).1 in
    let room = (between_true least_room most_room o.room t.1.1.1.0).1 in
    (omega arith, (omega arith, (omega arith, omega arith)))

pub good_opened : (o : Opened) → opened_sound o ≡ true → opened_format.Good o
unfolding opened_sound
good_opened o e =
    let t = both_true (flag o.live) (pick (eqb o.live 0) (zeros (o.context ∷ o.syntax ∷ o.room ∷ [])) (open_sound o)) e in
    opened_cases o (eqb o.live 0) (leb-true o.live 1 t.0) t.1

-- The core.

pub good_core : (k : Core) → core_sound k ≡ true → Sized k → core_format.Good k
unfolding core_format
good_core k e z =
    let f = core_facts k e in
    let n = numbers_facts k.numbers f.numbers in
    let serial = (between_true 1 none_left k.numbers.serial n.serial).1 in
    let picture = (between_true 1 none_left k.numbers.picture n.picture).1 in (
      good_numbers k.numbers f.numbers z.numbers,
      (
        good_sessions k serial f.sessions z.sessions,
        (
          good_shelf k.numbers (sessions_of k) k.shelf (omega arith) serial picture f.shelf z.shelf,
          (good_queue k.numbers k.queue serial picture f.queue z.queue, good_opened k.opened f.opened),
        ),
      ),
    )

-- The input.

pub bytes_each : (s : List ℕ) → Bytes s → Each Byte s
bytes_each [] o = tt
bytes_each (c ∷ s) o = (o 0, bytes_each s (λ i. o (suc i)))

abbrev pub CommandFits : List ℕ → Type 0
CommandFits c = (length c ≤ command_limit) × Each Byte c

abbrev pub InputFits : machine.Input → Type 0
InputFits idle = Unit {0}
InputFits (in_command c) = CommandFits c
InputFits skipping_command = Unit {0}
InputFits (in_data c d) = CommandFits c × (length d ≤ most_room)
InputFits (skipping_data c) = CommandFits c

held_fits : (phase : ℕ) (c : List ℕ) (got : ℕ) → phase < 256 → CommandFits c → got ≤ most_room → input_format.Good (held phase c got)
unfolding input_format
held_fits phase c got h f k =
    let short = f.0 in
    (h, (omega arith, (omega arith, good_array byte command_limit (filled_to command_limit 0 c) (filled_length command_limit 0 c short) (each_filled Byte command_limit 0 c f.1 (omega arith)))))

pub good_input : (i : machine.Input) → InputFits i → input_format.Good (input_held i)
unfolding input_held
good_input idle f = held_fits 0 [] 0 (omega arith) (omega arith, tt) (omega arith)
good_input (in_command c) f = held_fits 1 c 0 (omega arith) f (omega arith)
good_input skipping_command f = held_fits 2 [] 0 (omega arith) (omega arith, tt) (omega arith)
good_input (in_data c d) f = held_fits 3 c (length d) (omega arith) f.0 f.1
good_input (skipping_data c) f = held_fits 4 c 0 (omega arith) f (omega arith)

-- The whole.

pub good_state : (r : Records Core) → core_sound r.core ≡ true → Sized r.core → InputFits r.input → state_format.Good (state_of r)
unfolding state_format
good_state r e z f = (good_core r.core e z, good_input r.input f)

-- what a call wrote, the next call unpacks
pub written_back : (r : Records Core) (b : List ℕ) → records_size ≤ length b → core_sound r.core ≡ true → Sized r.core → InputFits r.input → unpack (written r b) ≡ state_of r
unfolding written unpack pack write
written_back r b h e z f = read_write state_laws (state_of r) b 0 (good_state r e z f) (omega (arith, records_size_lem))
