-- What a change makes of the core, what a decision comes to by the book, and what the writing of a change may rest on.
use Rattle.std.specs.Prelude.{ℕ, ◌+◌, ◌<◌, ◌≤◌, ◌≡◌, Bool, true, [], ◌∷◌, ◌++◌, length, set}
use Rattle.choice.specs.Pick.{pick, not}
use Rattle.rules.specs.declared.Session.{Session}
use Rattle.rules.specs.declared.ImageBox.{ImageBox}
use Rattle.rules.specs.declared.Film.{Film}
use Rattle.rules.specs.declared.Core.{Core}
use Rattle.rules.specs.declared.Verdict.{Verdict}
use Rattle.rules.specs.Bounds.{most_films, most_boxes, most_entries, none_left}
use Rattle.rules.specs.Lists.{those}
use Rattle.rules.specs.Records.{no_film, films_of, shelved, entries_of, queued, no_session, under, films_under, with_numbers, with_session, with_films, serials_used, picture_used}
use Rattle.rules.specs.Effects.{film_at, with_film, with_boxes, printed, film_deleted, session_deleted}
use Rattle.changes.specs.declared.Change.{Change}
use Rattle.changes.specs.declared.Effect.{Effect}
use Rattle.changes.specs.declared.Effect.TheVariants.{Kept, SessionCreated, SessionSet, FilmCreated, FilmSet, BoxSet, FilmPrinted, SessionPrinted, FilmDeleted, SessionDeleted}
use Rattle.changes.specs.declared.Decision.{Decision}

-- the core with a box anew, and the next picture number used where it fills the box
abbrev pub box_changed : Core → ℕ → ℕ → ImageBox → Bool → Core
box_changed k i j b fills =
    with_numbers (pick fills (picture_used k.numbers) k.numbers)
    (with_film i (with_boxes (set (film_at k i).boxes j b) (film_at k i)) k)

-- with the session or the film that is created or set
unfoldable pub affected : Core → Session → Film → Effect → Core
affected k s f Kept = k
affected k s f (SessionCreated n) = with_session 0 s (with_numbers (serials_used n k.numbers) k)
affected k s f SessionSet = with_session 0 s k
affected k s f (FilmCreated n) = with_films (films_of k.shelf ++ (f ∷ [])) (with_numbers (serials_used n k.numbers) k)
affected k s f (FilmSet i) = with_film i f k
affected k s f (BoxSet i j b fills) = box_changed k i j b fills
affected k s f (FilmPrinted i) = printed k (film_at k i ∷ [])
affected k s f SessionPrinted = printed k (films_under 0 k.shelf)
affected k s f (FilmDeleted i) = film_deleted k i
affected k s f SessionDeleted = session_deleted k 0

abbrev pub changed : Core → Change → Core
changed k c = affected k c.session c.film c.effect

-- what is not touched is blank
abbrev pub change_with_session : Effect → Session → Change
change_with_session e s = record { effect = e; session = s; film = no_film }

abbrev pub change_with_film : Effect → Film → Change
change_with_film e f = record { effect = e; session = no_session; film = f }

abbrev pub change_by : Effect → Change
change_by e = change_with_session e no_session

abbrev pub verdict_of : Core → Decision → Verdict
verdict_of k d = record {
  done = d.done;
  status = d.status;
  core = changed k d.change;
  instance = d.instance;
  note = d.note;
  contents = d.contents;
}

-- unused places are blank
abbrev pub Tidy : Core → Type 0
Tidy k = (shelved (films_of k.shelf) ≡ k.shelf) × (queued (entries_of k.queue) ≡ k.queue)

-- a film that is shelved
abbrev pub FilmThere : Core → ℕ → Type 0
FilmThere k i = i < length (films_of k.shelf)

-- all films are of the session, and none is beside those
abbrev pub AllUnder : Core → Type 0
AllUnder k = films_under 0 k.shelf ≡ films_of k.shelf

abbrev pub NoneBeside : Core → Type 0
NoneBeside k = those (λ f. not (under 0 f)) (films_of k.shelf) ≡ []

-- so many serials are left
abbrev pub SerialsLeft : Core → ℕ → Type 0
SerialsLeft k n = k.numbers.serial + n ≤ none_left

-- a picture number is left, where one is used
abbrev pub PictureLeft : Core → Bool → Type 0
PictureLeft k fills = fills ≡ true → k.numbers.picture + 1 ≤ none_left

-- an effect has its room, its numbers, and its places within what there is
unfoldable pub EffectFits : Core → Effect → Type 0
EffectFits k Kept = Unit {0}
EffectFits k (SessionCreated n) = SerialsLeft k n
EffectFits k SessionSet = Unit {0}
EffectFits k (FilmCreated n) = (k.shelf.count < most_films) × SerialsLeft k n
EffectFits k (FilmSet i) = FilmThere k i
EffectFits k (BoxSet i j b fills) = FilmThere k i × (j < most_boxes) × PictureLeft k fills
EffectFits k (FilmPrinted i) = FilmThere k i × (length (entries_of k.queue) < most_entries)
EffectFits k SessionPrinted = AllUnder k × (length (entries_of k.queue) + length (films_under 0 k.shelf) ≤ most_entries)
EffectFits k (FilmDeleted i) = FilmThere k i
EffectFits k SessionDeleted = NoneBeside k

abbrev pub Fits : Core → Change → Type 0
Fits k c = EffectFits k c.effect
