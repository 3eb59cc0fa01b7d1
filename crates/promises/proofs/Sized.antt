-- Records whose arrays have their lengths.
-- Assumes nothing.
use Prim.Native.Nat.{◌<◌}
use mathlib.Core.Path.{◌≡◌}
use mathlib.Core.List.{List}
use lib.ListN.{length}
use Rattle.rules.specs.Bounds.{most_films, most_boxes, most_entries, root_limit, tickets, most_sessions}
use Rattle.rules.specs.declared.Name.{Name}
use Rattle.rules.specs.declared.Session.{Session}
use Rattle.rules.specs.declared.Film.{Film}
use Rattle.rules.specs.declared.Shelf.{Shelf}
use Rattle.rules.specs.declared.Entry.{Entry}
use Rattle.rules.specs.declared.Queue.{Queue}
use Rattle.rules.specs.declared.Numbers.{Numbers}
use Rattle.rules.specs.declared.Core.{Core}
use Rattle.promises.proofs.ListLaws.{Each}

-- What the rules of the records do not say: how long arrays are, and that tickets fit their fields.

abbrev pub NameSized : Name → Type 0
NameSized name = length name.text ≡ 64

pub record SessionSized (s : Session) : Type 0 where
  pub name : NameSized s.name
  pub label : length s.label ≡ 64

pub record FilmSized (f : Film) : Type 0 where
  pub name : NameSized f.name
  pub counts : length f.layout.counts ≡ 6
  pub boxes : length f.boxes ≡ most_boxes

pub record EntrySized (e : Entry) : Type 0 where
  pub pictures : length e.pictures ≡ most_boxes
  pub ticket : e.ticket < tickets
  pub film : NameSized e.film

pub record ShelfSized (shelf : Shelf) : Type 0 where
  pub films : length shelf.films ≡ most_films
  pub each : Each FilmSized shelf.films

pub record QueueSized (q : Queue) : Type 0 where
  pub entries : length q.entries ≡ most_entries
  pub each : Each EntrySized q.entries

pub record NumbersSized (n : Numbers) : Type 0 where
  pub root : length n.root ≡ root_limit
  pub ticket : n.ticket < tickets

pub record SessionsSized (sessions : List Session) : Type 0 where
  pub places : length sessions ≡ most_sessions
  pub each : Each SessionSized sessions

pub record Sized (k : Core) : Type 0 where
  pub numbers : NumbersSized k.numbers
  pub sessions : SessionsSized k.sessions
  pub shelf : ShelfSized k.shelf
  pub queue : QueueSized k.queue
