-- What the rules of the records say, fact by fact.
-- Assumes nothing.
use Prim.Native.Nat.{ℕ, ◌+◌, ◌≤◌}
use mathlib.Core.Path.{◌≡◌, ap, ◌∙◌}
use mathlib.Core.Bool.{Bool, true, false}
use mathlib.Core.List.{List, []}
use native.Mathlib.Omega.{arith}
use lib.Dec.{eqb, leb, ltb}
use lib.ListN.{length, take, drop, length-take}
use borrow.Author.Tests.{leb-true, le-leb, ltb-true}
use Rattle.choice.specs.Pick.{pick}
use Rattle.choice.proofs.Picks.{both_true, both_holds}
use Rattle.octets.specs.Octets.{same}
use Rattle.uids.specs.Uids.{is_uid, made}
use Rattle.uids.proofs.Made.{made_uid}
use Rattle.rules.specs.Bounds.{most_films, most_entries, root_limit, none_left}
use Rattle.rules.specs.declared.Name.{Name}
use Rattle.rules.specs.declared.Session.{Session}
use Rattle.rules.specs.declared.ImageBox.{ImageBox}
use Rattle.rules.specs.declared.Film.{Film}
use Rattle.rules.specs.declared.Shelf.{Shelf}
use Rattle.rules.specs.declared.Entry.{Entry}
use Rattle.rules.specs.declared.Queue.{Queue}
use Rattle.rules.specs.declared.Numbers.{Numbers}
use Rattle.rules.specs.declared.Core.{Core}
use Rattle.rules.specs.Lists.{every}
use Rattle.rules.specs.Values.{trimmed, label_allowed}
use Rattle.rules.specs.Records.{root_of, uid_of, box_count, boxes_of, films_of, entries_of, is_live, shelved, queued, sessions_of, the_session}
use Rattle.rules.specs.Sound.{between, zeros, flag, sent_sound, made_sound, name_sound, numbers_sound, session_sound, session_blank, layout_sound, box_sound, box_blank, film_sound, film_blank, shelf_sound, entry_sound, entry_blank, queue_sound, uids_apart, opened_sound, core_sound, session_place_sound, has_session}
use Rattle.promises.proofs.ListLaws.{all_true, all_holds, every_parts, films_behind, entries_behind, films_shelved, entries_queued}

pub between_true : (low high n : ℕ) → between low high n ≡ true → (low ≤ n) × (n ≤ high)
between_true low high n e =
    let t = both_true (leb low n) (leb n high) e in
    (leb-true low n t.0, leb-true n high t.1)

pub between_holds : (low high n : ℕ) → low ≤ n → n ≤ high → between low high n ≡ true
between_holds low high n h k = both_holds (leb low n) (leb n high) (le-leb low n h) (le-leb n high k)

-- The core.

pub record CoreFacts (k : Core) : Type 0 where
  pub numbers : numbers_sound k.numbers ≡ true
  pub sessions : every (session_place_sound k.numbers) (sessions_of k) ≡ true
  pub shelf : shelf_sound k.numbers (sessions_of k) k.shelf ≡ true
  pub queue : queue_sound k.numbers k.queue ≡ true
  pub uids : uids_apart (sessions_of k) (films_of k.shelf) ≡ true
  pub opened : opened_sound k.opened ≡ true

pub core_facts : (k : Core) → core_sound k ≡ true → CoreFacts k
unfolding core_sound
core_facts k e =
    let t = all_true _ e in
    record {
      numbers = t.0;
      sessions = t.1.0;
      shelf = t.1.1.0;
      queue = t.1.1.1.0;
      uids = t.1.1.1.1.0;
      opened = t.1.1.1.1.1.0;
    }

pub core_sound_lem : (k : Core) → CoreFacts k → core_sound k ≡ true
unfolding core_sound
core_sound_lem k f = all_holds _ (f.numbers, (f.sessions, (f.shelf, (f.queue, (f.uids, (f.opened, tt))))))

-- The numbers.

pub record NumbersFacts (n : Numbers) : Type 0 where
  pub used : between 1 root_limit n.used ≡ true
  pub root : is_uid (root_of n) ≡ true
  pub behind : zeros (drop n.used n.root) ≡ true
  pub serial : between 1 none_left n.serial ≡ true
  pub picture : between 1 none_left n.picture ≡ true

pub numbers_facts : (n : Numbers) → numbers_sound n ≡ true → NumbersFacts n
unfolding numbers_sound
numbers_facts n e =
    let t = all_true _ e in
    record { used = t.0; root = t.1.0; behind = t.1.1.0; serial = t.1.1.1.0; picture = t.1.1.1.1.0 }

pub numbers_sound_lem : (n : Numbers) → NumbersFacts n → numbers_sound n ≡ true
unfolding numbers_sound
numbers_sound_lem n f = all_holds _ (f.used, (f.root, (f.behind, (f.serial, (f.picture, tt)))))

-- a root has room for a dot and a serial behind it
pub root_short : (k : Core) → core_sound k ≡ true → k.numbers.used ≤ 40
root_short k e = (between_true 1 40 k.numbers.used (numbers_facts k.numbers (core_facts k e).numbers).used).1

pub root_fits : (n : Numbers) → numbers_sound n ≡ true → length (root_of n) ≤ root_limit
unfolding root_of
root_fits n e = omega (arith, length-take n.used n.root, (between_true 1 root_limit n.used (numbers_facts n e).used).1)

-- a name, made or sent, is a UID
pub name_uid : (n : Numbers) (name : Name) → numbers_sound n ≡ true → name_sound n name ≡ true → is_uid (uid_of n name) ≡ true
unfolding name_sound uid_of
name_uid n name e h = by (eqb name.made.0 0) h
  where
    by : (sent : Bool) → pick sent (sent_sound n name) (made_sound n name) ≡ true → is_uid (pick sent (take name.used name.text) (made (root_of n) name.made.0)) ≡ true
    by true h = (all_true _ h).1.0
    by false h =
        let f = numbers_facts n e in
        let below = ltb-true name.made.0 n.serial (all_true _ h).0 in
        let most = (between_true 1 none_left n.serial f.serial).1 in
        made_uid (root_of n) name.made.0 f.root (root_fits n e) (omega arith)

-- The films.

pub record ShelfFacts (n : Numbers) (sessions : List Session) (shelf : Shelf) : Type 0 where
  pub count : leb shelf.count most_films ≡ true
  pub owned : every (has_session sessions) (films_of shelf) ≡ true
  pub films : every (film_sound n) (films_of shelf) ≡ true
  pub behind : every film_blank (drop shelf.count shelf.films) ≡ true

pub shelf_facts : (n : Numbers) (sessions : List Session) (shelf : Shelf) → shelf_sound n sessions shelf ≡ true → ShelfFacts n sessions shelf
unfolding shelf_sound
shelf_facts n sessions shelf e =
    let t = all_true _ e in
    record { count = t.0; owned = t.1.0; films = t.1.1.0; behind = t.1.1.1.0 }

pub shelf_sound_lem : (n : Numbers) (sessions : List Session) (shelf : Shelf) → ShelfFacts n sessions shelf → shelf_sound n sessions shelf ≡ true
unfolding shelf_sound
shelf_sound_lem n sessions shelf f = all_holds _ (f.count, (f.owned, (f.films, (f.behind, tt))))

-- films on a shelf anew
pub shelved_sound : (n : Numbers) (sessions : List Session) (films : List Film) → length films ≤ most_films → every (has_session sessions) films ≡ true → every (film_sound n) films ≡ true → shelf_sound n sessions (shelved films) ≡ true
unfolding shelved
shelved_sound n sessions films h o e =
    shelf_sound_lem n sessions (shelved films) record {
      count = le-leb (length films) most_films h;
      owned = ap (every (has_session sessions)) (films_shelved films) ∙ o;
      films = ap (every (film_sound n)) (films_shelved films) ∙ e;
      behind = films_behind films;
    }

-- The queue.

pub record QueueFacts (n : Numbers) (q : Queue) : Type 0 where
  pub count : leb q.count most_entries ≡ true
  pub entries : every (entry_sound n) (entries_of q) ≡ true
  pub behind : every entry_blank (drop q.count q.entries) ≡ true

pub queue_facts : (n : Numbers) (q : Queue) → queue_sound n q ≡ true → QueueFacts n q
unfolding queue_sound
queue_facts n q e =
    let t = all_true _ e in
    record { count = t.0; entries = t.1.0; behind = t.1.1.0 }

pub queue_sound_lem : (n : Numbers) (q : Queue) → QueueFacts n q → queue_sound n q ≡ true
unfolding queue_sound
queue_sound_lem n q f = all_holds _ (f.count, (f.entries, (f.behind, tt)))

-- entries queued anew
pub queued_sound : (n : Numbers) (entries : List Entry) → length entries ≤ most_entries → every (entry_sound n) entries ≡ true → queue_sound n (queued entries) ≡ true
unfolding queued
queued_sound n entries h e =
    queue_sound_lem n (queued entries) record {
      count = le-leb (length entries) most_entries h;
      entries = ap (every (entry_sound n)) (entries_queued entries) ∙ e;
      behind = entries_behind entries;
    }

pub films_few : (n : Numbers) (sessions : List Session) (shelf : Shelf) → shelf_sound n sessions shelf ≡ true → length (films_of shelf) ≤ most_films
unfolding films_of
films_few n sessions shelf e = let c = leb-true shelf.count most_films (shelf_facts n sessions shelf e).count in simp length-take (omega arith)

pub entries_few : (n : Numbers) (q : Queue) → queue_sound n q ≡ true → length (entries_of q) ≤ most_entries
unfolding entries_of
entries_few n q e = let c = leb-true q.count most_entries (queue_facts n q e).count in simp length-take (omega arith)

-- Next numbers are at least 1.

pub record Counted (n : Numbers) : Type 0 where
  pub serials : 1 ≤ n.serial
  pub pictures : 1 ≤ n.picture

pub counted : (n : Numbers) → numbers_sound n ≡ true → Counted n
counted n e =
    let f = numbers_facts n e in
    record { serials = (between_true 1 none_left n.serial f.serial).0; pictures = (between_true 1 none_left n.picture f.picture).0 }

-- A session.

pub record LabelFacts (used : ℕ) (label : List ℕ) : Type 0 where
  pub short : leb used 64 ≡ true
  pub allowed : label_allowed (take used label) ≡ true
  pub bare : same (trimmed (take used label)) (take used label) ≡ true
  pub behind : zeros (drop used label) ≡ true

-- all but the name
pub record ValueFacts (s : Session) : Type 0 where
  pub copies : between 1 99 s.copies ≡ true
  pub priority : leb s.priority 2 ≡ true
  pub medium : leb s.medium 2 ≡ true
  pub destination : leb s.destination 1 ≡ true
  pub label : LabelFacts s.used s.label

pub session_facts : (n : Numbers) (s : Session) → session_sound n s ≡ true → (name_sound n s.name ≡ true) × ValueFacts s
session_facts n s e =
    let t = all_true _ e in (
      t.0,
      record {
        copies = t.1.0;
        priority = t.1.1.0;
        medium = t.1.1.1.0;
        destination = t.1.1.1.1.0;
        label = record {
          short = t.1.1.1.1.1.0;
          allowed = t.1.1.1.1.1.1.0;
          bare = t.1.1.1.1.1.1.1.0;
          behind = t.1.1.1.1.1.1.1.1.0;
        };
      },
    )

pub session_sound_lem : (n : Numbers) (s : Session) → name_sound n s.name ≡ true → ValueFacts s → session_sound n s ≡ true
session_sound_lem n s e f =
    all_holds _
    (e, (f.copies, (f.priority, (f.medium, (f.destination, (f.label.short, (f.label.allowed, (f.label.bare, (f.label.behind, tt)))))))))

-- a place whose session is live
pub live_facts : (n : Numbers) (s : Session) → session_place_sound n s ≡ true → is_live s ≡ true → (name_sound n s.name ≡ true) × ValueFacts s
live_facts n s e l = let b = (both_true (flag s.live) (pick (is_live s) (session_sound n s) (session_blank s)) e).1 in session_facts n s (rw l at b)

-- the only place
pub the-place : (k : Core) → CoreFacts k → session_place_sound k.numbers (the_session k) ≡ true
the-place k f = (every_parts (session_place_sound k.numbers) (the_session k) [] f.sessions).0

-- A film and its boxes.

pub record FilmFacts (n : Numbers) (f : Film) : Type 0 where
  pub name : name_sound n f.name ≡ true
  pub layout : layout_sound f.layout ≡ true
  pub orientation : flag f.orientation ≡ true
  pub magnification : leb f.magnification 3 ≡ true
  pub first : leb 1 f.first.0 ≡ true
  pub last : leb (f.first.0 + box_count f.layout) n.serial ≡ true
  pub boxes : every (box_sound (box_count f.layout) n) (boxes_of f) ≡ true
  pub behind : every box_blank (drop (box_count f.layout) f.boxes) ≡ true

pub film_facts : (n : Numbers) (f : Film) → film_sound n f ≡ true → FilmFacts n f
unfolding film_sound
film_facts n f e =
    let t = all_true _ e in
    record {
      name = t.0;
      layout = t.1.0;
      orientation = t.1.1.0;
      magnification = t.1.1.1.0;
      first = t.1.1.1.1.0;
      last = t.1.1.1.1.1.0;
      boxes = t.1.1.1.1.1.1.0;
      behind = t.1.1.1.1.1.1.1.0;
    }

pub film_sound_lem : (n : Numbers) (f : Film) → FilmFacts n f → film_sound n f ≡ true
unfolding film_sound
film_sound_lem n f t =
    all_holds _
    (t.name, (t.layout, (t.orientation, (t.magnification, (t.first, (t.last, (t.boxes, (t.behind, tt))))))))

pub box_facts : (boxes : ℕ) (n : Numbers) (b : ImageBox) → box_sound boxes n b ≡ true → (between 1 boxes b.position ≡ true) × (flag b.polarity ≡ true) × (ltb b.picture.0 n.picture ≡ true)
box_facts boxes n b e = let t = all_true _ e in (t.0, t.1.0, t.1.1.0)

pub box_sound_lem : (boxes : ℕ) (n : Numbers) (b : ImageBox) → between 1 boxes b.position ≡ true → flag b.polarity ≡ true → ltb b.picture.0 n.picture ≡ true → box_sound boxes n b ≡ true
box_sound_lem boxes n b e f g = all_holds _ (e, (f, (g, tt)))
