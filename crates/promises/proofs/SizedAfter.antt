-- Arrays have their lengths after each call and each request that is done.
-- Assumes nothing.
use Prim.Native.Nat.{ℕ, suc, ◌+◌, ◌-◌, ◌<◌, ◌≤◌}
use mathlib.Core.Path.{◌≡◌, refl, ap, ◌∙◌}
use mathlib.Core.Bool.{Bool, true, false}
use mathlib.Core.List.{List, [], ◌∷◌, ◌++◌, map}
use native.Mathlib.Omega.{arith}
use native.Mathlib.Nat.{mod-lt}
use lib.Dec.{eqb, leb, ltb}
use lib.ListN.{length, set, drop, length-append, length-take, length-drop, length-set, length-map}
use borrow.Author.Tests.{leb-true, ltb-false, eqb-false}
use Rattle.choice.specs.Pick.{pick, not}
use Rattle.choice.proofs.Picks.{Kept, both_true, either_false}
use Rattle.uids.specs.Uids.{is_uid}
use Rattle.headers.specs.declared.Part.{Part}
use Rattle.rules.specs.Bounds.{most_films, most_boxes, most_entries, root_limit, tickets}
use Rattle.rules.specs.declared.Session.{Session}
use Rattle.rules.specs.declared.Film.{Film}
use Rattle.rules.specs.declared.Shelf.{Shelf}
use Rattle.rules.specs.declared.Entry.{Entry}
use Rattle.rules.specs.declared.Queue.{Queue}
use Rattle.rules.specs.declared.Numbers.{Numbers}
use Rattle.rules.specs.declared.Core.{Core}
use Rattle.rules.specs.Lists.{every, from, filled_to}
use Rattle.rules.specs.Values.{trimmed, blank, label_byte, label_allowed, counts_in}
use Rattle.rules.specs.Records.{made_name, sent_name, box_count, boxes_of, no_box, no_film, films_of, shelved, no_entry, entries_of, queued, no_session, new_session, the_session, no_sessions, under, films_under}
use Rattle.rules.specs.declared.Image.{Image}
use Rattle.rules.specs.declared.Image.TheVariants.{Keeps, Erases, TooMany, Fills}
use Rattle.rules.specs.Attributes.{Listing, look, value_of, fine, mandatory, optional, attribute_rules, session_standings, session_with, film_with, layout_in, image_in}
use Rattle.rules.specs.Effects.{name_from, next_ticket, session_created, new_box, new_film, film_created, session_set, film_at, film_set, box_set_in, numbers_after, box_set, session_deleted, film_deleted, picture_on, entry_of, entries_for, ticket_after, printed, queue_room}
use Rattle.rules.specs.Checks.{create_rules, new_session_rules, new_film_rules, sent_uid, session_print_rules, film_print_rules}
use Rattle.rules.specs.Calls.{Starting, Opening, start_rules, started, opened, closed, taken}
use Rattle.promises.proofs.ListLaws.{from_length, Each, each_or, each_append, each_take, each_drop, each_set, each_filled, filled_length, those_part, part_length, each_part, part_without}
use Rattle.promises.proofs.ListLaws as lists
use Rattle.promises.proofs.Standings.{kept_fine, or_kept_lem}
use Rattle.promises.proofs.Layouts.{lines_few, layout_few}
use Rattle.promises.proofs.NewNames.{sendable, sent_short}
use Rattle.promises.proofs.Sized.{NameSized, SessionSized, FilmSized, ShelfSized, EntrySized, QueueSized, NumbersSized, Sized, SessionsSized}

-- Nothing live.

no_session_sized : SessionSized no_session
no_session_sized = record { name = refl; label = refl }

-- a session at the only place
one_sized : (s : Session) → SessionSized s → SessionsSized (s ∷ [])
one_sized s z = record { places = refl; each = (z, tt) }

no_sessions_sized : SessionsSized no_sessions
no_sessions_sized = one_sized no_session no_session_sized

the-session-sized : (k : Core) → Sized k → SessionSized (the_session k)
the-session-sized k z = each_or SessionSized k.sessions 0 no_session z.sessions.each no_session_sized

no_film_sized : FilmSized no_film
no_film_sized = record { name = refl; counts = refl; boxes = refl }

no_entry_sized : EntrySized no_entry
no_entry_sized = record { pictures = refl; ticket = omega arith; film = refl }

-- Films and entries, as they are held and stored anew.

pub shelved_sized : (films : List Film) → length films ≤ most_films → Each FilmSized films → ShelfSized (shelved films)
unfolding shelved
shelved_sized films h e = record { films = filled_length most_films no_film films h; each = each_filled FilmSized most_films no_film films e no_film_sized }

pub queued_sized : (entries : List Entry) → length entries ≤ most_entries → Each EntrySized entries → QueueSized (queued entries)
unfolding queued
queued_sized entries h e = record { entries = filled_length most_entries no_entry entries h; each = each_filled EntrySized most_entries no_entry entries e no_entry_sized }

pub films_sized : (shelf : Shelf) → ShelfSized shelf → (length (films_of shelf) ≤ most_films) × Each FilmSized (films_of shelf)
unfolding films_of
films_sized shelf z =
    let e = z.films in
    (simp length-take (omega arith), each_take FilmSized shelf.count shelf.films z.each)

pub entries_sized : (q : Queue) → QueueSized q → (length (entries_of q) ≤ most_entries) × Each EntrySized (entries_of q)
unfolding entries_of
entries_sized q z =
    let e = z.entries in
    (simp length-take (omega arith), each_take EntrySized q.count q.entries z.each)

pub film_at_sized : (k : Core) (i : ℕ) → Sized k → FilmSized (film_at k i)
film_at_sized k i z = each_or FilmSized (films_of k.shelf) i no_film (films_sized k.shelf z.shelf).1 no_film_sized

-- Start, open, close, take.

pub started_sized : (h : Starting) → Kept (start_rules h) → Sized (started h)
unfolding started
started_sized h r =
    let t = either_false (not (is_uid h.root)) (ltb root_limit (length h.root)) r.0 in
    record {
      numbers = record { root = filled_length root_limit 0 h.root (ltb-false root_limit (length h.root) t.1); ticket = omega arith };
      sessions = no_sessions_sized;
      shelf = shelved_sized [] (omega arith) tt;
      queue = queued_sized [] (omega arith) tt;
    }

pub opened_sized : (k : Core) (h : Opening) → Sized k → Sized (opened k h)
unfolding opened
opened_sized k h z = record { numbers = z.numbers; sessions = z.sessions; shelf = z.shelf; queue = z.queue }

pub closed_sized : (k : Core) → Sized k → Sized (closed k)
unfolding closed
closed_sized k z = record { numbers = z.numbers; sessions = no_sessions_sized; shelf = shelved_sized [] (omega arith) tt; queue = z.queue }

pub taken_sized : (k : Core) → Sized k → Sized (taken k).0
unfolding taken
taken_sized k z =
    let entries = entries_of k.queue in
    let t = entries_sized k.queue z.queue in
    let few : length (drop 1 entries) ≤ most_entries = simp length-drop (omega (arith, t.0)) in
    record {
      numbers = z.numbers;
      sessions = z.sessions;
      shelf = z.shelf;
      queue = queued_sized (drop 1 entries) few (each_drop EntrySized 1 entries t.1);
    }

-- Delete.

-- some of the films
part_sized : (shelf : Shelf) (films : List Film) → lists.Part films (films_of shelf) → ShelfSized shelf → ShelfSized (shelved films)
part_sized shelf films p z =
    let t = films_sized shelf z in
    let fewer = part_length p in
    shelved_sized films (omega (arith, t.0)) (each_part FilmSized p t.1)

pub session_deleted_sized : (k : Core) → Sized k → Sized (session_deleted k 0)
unfolding session_deleted
session_deleted_sized k z = record {
  numbers = z.numbers;
  sessions = no_sessions_sized;
  shelf = part_sized k.shelf _ (those_part (λ f. not (under 0 f)) (films_of k.shelf)) z.shelf;
  queue = z.queue;
}

pub film_deleted_sized : (k : Core) (i : ℕ) → Sized k → Sized (film_deleted k i)
unfolding film_deleted
film_deleted_sized k i z =
    record {
      numbers = z.numbers;
      sessions = z.sessions;
      shelf = part_sized k.shelf _ (part_without i (films_of k.shelf)) z.shelf;
      queue = z.queue;
    }

-- Sessions.

-- a label that is given is allowed
label_right : (l : Listing) → Kept (attribute_rules (session_standings l)) → optional (mandatory blank label_allowed l (look l 0x2000_0050)) ≡ fine
unfolding session_standings
label_right l r = (kept_fine (session_standings l) r).1.1.1.1.0

label_given : (v : List ℕ) → label_allowed v ≡ true → length (filled_to 64 0 (trimmed v)) ≡ 64
unfolding label_allowed
label_given v e = filled_length 64 0 (trimmed v) (leb-true (length (trimmed v)) 64 (both_true (leb (length (trimmed v)) 64) (every label_byte (trimmed v)) e).0)

session_with_sized : (l : Listing) (s : Session) → Kept (attribute_rules (session_standings l)) → SessionSized s → SessionSized (session_with l s)
unfolding session_with
session_with_sized l s r z = record {
  name = z.name;
  label = or_kept_lem (λ (t : List ℕ). length t ≡ 64) label_allowed l 0x2000_0050 (λ v. filled_to 64 0 (trimmed v)) s.label (label_right l r) label_given z.label;
}

pub session_set_sized : (k : Core) (l : Listing) → Kept (attribute_rules (session_standings l)) → Sized k → Sized (session_set k 0 l)
unfolding session_set
session_set_sized k l r z = record { numbers = z.numbers; sessions = one_sized (session_with l (the_session k)) (session_with_sized l (the_session k) r (the-session-sized k z)); shelf = z.shelf; queue = z.queue }

name_sized : (n : Numbers) (uid : List ℕ) (unsent : Bool) → length uid ≤ 64 → NameSized (pick unsent (made_name n.serial) (sent_name uid))
name_sized n uid true h = refl
name_sized n uid false h = filled_length 64 0 uid h

new_name_sized : (k : Core) (c : List ℕ) (sent : Part) → Kept (create_rules k c sent) → NameSized (name_from k.numbers (sent_uid c sent))
new_name_sized k c sent r =
    let u = sent_uid c sent in
    name_sized k.numbers u (eqb (length u) 0) (sent_short k u (sendable k c sent r))

pub session_created_sized : (k : Core) (c : List ℕ) (sent : Part) (l : Listing) → Kept (create_rules k c sent) → Kept (new_session_rules k (sent_uid c sent) l) → Sized k → Sized (session_created k (sent_uid c sent) l)
unfolding session_created
session_created_sized k c sent l r q z =
    let s = session_with_sized l new_session (q.0, (q.1.0, (q.1.1.0, tt))) (record { name = refl; label = refl }) in
    record {
      numbers = record { root = z.numbers.root; ticket = z.numbers.ticket };
      sessions = one_sized _ (record { name = new_name_sized k c sent r; label = s.label });
      shelf = z.shelf;
      queue = z.queue;
    }

-- Films.

film_with_sized : (l : Listing) (f : Film) → FilmSized f → FilmSized (film_with l f)
unfolding film_with
film_with_sized l f z = record { name = z.name; counts = z.counts; boxes = z.boxes }

set_sized : (shelf : Shelf) (i : ℕ) (f : Film) → ShelfSized shelf → FilmSized f → ShelfSized (shelved (set (films_of shelf) i f))
set_sized shelf i f z h =
    let films = films_of shelf in
    let t = films_sized shelf z in
    let few : length (set films i f) ≤ most_films = simp length-set (omega (arith, t.0)) in
    shelved_sized (set films i f) few (each_set FilmSized films i f t.1 h)

pub film_set_sized : (k : Core) (i : ℕ) (l : Listing) → Sized k → Sized (film_set k i l)
unfolding film_set
film_set_sized k i l z = record {
  numbers = z.numbers;
  sessions = z.sessions;
  shelf = set_sized k.shelf i (film_with l (film_at k i)) z.shelf (film_with_sized l (film_at k i) (film_at_sized k i z));
  queue = z.queue;
}

numbers_after_sized : (image : Image) (n : Numbers) → NumbersSized n → NumbersSized (numbers_after image n)
numbers_after_sized Keeps n z = z
numbers_after_sized Erases n z = z
numbers_after_sized TooMany n z = z
numbers_after_sized (Fills inside) n z = record { root = z.root; ticket = z.ticket }

pub box_set_sized : (k : Core) (i j : ℕ) (l : Listing) → Sized k → Sized (box_set k i j l)
unfolding box_set
box_set_sized k i j l z =
    let f = film_at_sized k i z in
    record {
      numbers = numbers_after_sized (image_in l) k.numbers z.numbers;
      sessions = z.sessions;
      shelf =
          set_sized k.shelf i (box_set_in k.numbers.picture j l (film_at k i)) z.shelf
          (record { name = f.name; counts = f.counts; boxes = length-set (film_at k i).boxes j _ ∙ f.boxes });
      queue = z.queue;
    }

-- A film created.

layout_sized : (l : Listing) → length (layout_in l).counts ≡ 6
unfolding layout_in
layout_sized l = let v = value_of l 0x2010_0010 in filled_length 6 0 (counts_in v) (lines_few v)

new_boxes_sized : (count : ℕ) → count ≤ most_boxes → length (filled_to most_boxes no_box (map new_box (from 1 count))) ≡ most_boxes
new_boxes_sized count h =
    let e = length-map (from 1 count) new_box ∙ from_length 1 count in
    filled_length most_boxes no_box (map new_box (from 1 count)) (omega arith)

new_film_sized : (k : Core) (sent : List ℕ) (l : Listing) → NameSized (name_from k.numbers sent) → FilmSized (new_film k sent l)
unfolding new_film film_with
new_film_sized k sent l h = record { name = h; counts = layout_sized l; boxes = new_boxes_sized (box_count (layout_in l)) (layout_few l) }

one_more : {A : Type 0} (most : ℕ) (xs : List A) (x : A) → length xs ≤ most → eqb (length xs) most ≡ false → length (xs ++ (x ∷ [])) ≤ most
one_more most xs x h e =
    let room : length xs ≡ most → ⊥ = eqb-false (length xs) most e in
    simp length-append (omega arith)

pub film_created_sized : (k : Core) (c : List ℕ) (sent : Part) (l : Listing) → Kept (create_rules k c sent) → Kept (new_film_rules k (sent_uid c sent) l) → Sized k → Sized (film_created k (sent_uid c sent) l)
unfolding film_created
film_created_sized k c sent l r q z =
    let films = films_of k.shelf in
    let f = new_film k (sent_uid c sent) l in
    let t = films_sized k.shelf z.shelf in
    record {
      numbers = record { root = z.numbers.root; ticket = z.numbers.ticket };
      sessions = z.sessions;
      shelf =
          shelved_sized (films ++ (f ∷ [])) (one_more most_films films f t.0 q.1.1.1.0)
          (each_append FilmSized films (f ∷ []) t.1 (new_film_sized k (sent_uid c sent) l (new_name_sized k c sent r), tt));
      queue = z.queue;
    }

-- Printing.

next_ticket_lem : (t : ℕ) → next_ticket t < tickets
next_ticket_lem t = mod-lt (t + 1) (omega arith)

ticket_after_lem : (ticket : ℕ) (films : List Film) → ticket < tickets → ticket_after ticket films < tickets
unfolding ticket_after
ticket_after_lem ticket [] h = h
ticket_after_lem ticket (f ∷ films) h = ticket_after_lem (next_ticket ticket) films (next_ticket_lem ticket)

entry_sized : (k : Core) (ticket : ℕ) (f : Film) → ticket < tickets → FilmSized f → EntrySized (entry_of k ticket f)
unfolding entry_of
entry_sized k ticket f h z = record {
  pictures = length-map (from 1 most_boxes) (picture_on (boxes_of f)) ∙ from_length 1 most_boxes;
  ticket = h;
  film = z.name;
}

new_entries_sized : (k : Core) (ticket : ℕ) (films : List Film) → ticket < tickets → Each FilmSized films → (length (entries_for k ticket films) ≡ length films) × Each EntrySized (entries_for k ticket films)
unfolding entries_for
new_entries_sized k ticket [] h z = (refl, tt)
new_entries_sized k ticket (f ∷ films) h z =
    let t = new_entries_sized k (next_ticket ticket) films (next_ticket_lem ticket) z.1 in
    (ap suc t.0, (entry_sized k ticket f h z.0, t.1))

pub printed_sized : (k : Core) (films : List Film) → ltb (queue_room k) (length films) ≡ false → Each FilmSized films → Sized k → Sized (printed k films)
unfolding printed
printed_sized k films e h z =
    let entries = entries_of k.queue in
    let room : length films ≤ most_entries - length entries = ltb-false (queue_room k) (length films) e in
    let t = entries_sized k.queue z.queue in
    let more = new_entries_sized k k.numbers.ticket films z.numbers.ticket h in
    let most : length (entries ++ entries_for k k.numbers.ticket films) ≤ most_entries = simp (length-append, more.0) (omega (arith, t.0)) in
    record {
      numbers = record { root = z.numbers.root; ticket = ticket_after_lem k.numbers.ticket films z.numbers.ticket };
      sessions = z.sessions;
      shelf = z.shelf;
      queue = queued_sized (entries ++ entries_for k k.numbers.ticket films) most (each_append EntrySized entries (entries_for k k.numbers.ticket films) t.1 more.1);
    }

pub session_printed_sized : (k : Core) → Kept (session_print_rules k 0) → Sized k → Sized (printed k (films_under 0 k.shelf))
unfolding films_under
session_printed_sized k r z = printed_sized k (films_under 0 k.shelf) r.1.1.0 (each_part FilmSized (those_part (under 0) (films_of k.shelf)) (films_sized k.shelf z.shelf).1) z

pub film_printed_sized : (k : Core) (i : ℕ) → Kept (film_print_rules k i) → Sized k → Sized (printed k (film_at k i ∷ []))
film_printed_sized k i r z = printed_sized k (film_at k i ∷ []) r.1.0 (film_at_sized k i z, tt) z
