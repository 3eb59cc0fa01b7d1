-- The records, rules 7.15 to 7.21: what a request that is done changes.
use Rattle.std.specs.Prelude.{ℕ, ◌+◌, ◌-◌, ◌%◌, Bool, List, [], ◌∷◌, ◌++◌, map, eqb, ltb, length, get_or, set}
use Rattle.choice.specs.Pick.{pick, both, not}
use Rattle.rules.specs.declared.Name.{Name}
use Rattle.rules.specs.declared.Session.{Session}
use Rattle.rules.specs.declared.ImageBox.{ImageBox}
use Rattle.rules.specs.declared.Film.{Film}
use Rattle.rules.specs.declared.Picture.{Picture}
use Rattle.rules.specs.declared.Entry.{Entry}
use Rattle.rules.specs.declared.Numbers.{Numbers}
use Rattle.rules.specs.declared.Core.{Core}
use Rattle.rules.specs.Bounds.{most_boxes, most_entries, none_left, tickets}
use Rattle.rules.specs.Lists.{any, from, filled_to, those, without}
use Rattle.rules.specs.Records.{serial, picture, made_name, sent_name, box_count, boxes_of, filled, no_box, no_film, films_of, entries_of, no_session, new_session, session_at, under, with_numbers, with_session, with_films, with_queue, serials_used, picture_used}
use Rattle.rules.specs.declared.Image.{Image}
use Rattle.rules.specs.Attributes.{Listing, image_in, is_fill, session_with, film_with, session_in, layout_in, box_with}

-- Numbers.

-- "A session or film without a sent UID takes the next serial": how many that is
abbrev pub own_serials : List ℕ → ℕ
own_serials sent = pick (eqb (length sent) 0) 1 0

abbrev pub name_from : Numbers → List ℕ → Name
name_from n sent = pick (eqb (length sent) 0) (made_name n.serial) (sent_name sent)

abbrev pub too_few_serials : Numbers → ℕ → Bool
too_few_serials n needed = ltb none_left (n.serial + needed)

abbrev pub no_picture_left : Numbers → Bool
no_picture_left n = eqb n.picture none_left

-- "after 65,535 comes 0"
abbrev pub next_ticket : ℕ → ℕ
next_ticket t = (t + 1) % tickets

-- N-CREATE.

abbrev pub renamed : Name → Session → Session
renamed name s = record {
  live = s.live;
  name = name;
  copies = s.copies;
  priority = s.priority;
  medium = s.medium;
  destination = s.destination;
  used = s.used;
  label = s.label;
}

unfoldable pub session_created : Core → List ℕ → Listing → Core
session_created k sent l =
    with_session 0 (renamed (name_from k.numbers sent) (session_with l new_session))
    (with_numbers (serials_used (own_serials sent) k.numbers) k)

-- "at creation its place in row order"
abbrev pub new_box : ℕ → ImageBox
new_box position = record { position = position; polarity = 0; picture = picture 0 }

-- Orientation PORTRAIT, Magnification BILINEAR, unless the data set gives others
unfoldable pub new_film : Core → List ℕ → Listing → Film
new_film k sent l = film_with l (record {
  name = name_from k.numbers sent;
  session = session_in k l;
  layout = layout_in l;
  orientation = 0;
  magnification = 2;
  first = serial (k.numbers.serial + own_serials sent);
  boxes = filled_to most_boxes no_box (map new_box (from 1 (box_count (layout_in l))));
})

abbrev pub film_serials : List ℕ → Listing → ℕ
film_serials sent l = own_serials sent + box_count (layout_in l)

unfoldable pub film_created : Core → List ℕ → Listing → Core
film_created k sent l =
    with_films (films_of k.shelf ++ (new_film k sent l ∷ []))
    (with_numbers (serials_used (film_serials sent l) k.numbers) k)

-- N-SET.

unfoldable pub session_set : Core → ℕ → Listing → Core
session_set k i l = with_session i (session_with l (session_at k i)) k

abbrev pub film_at : Core → ℕ → Film
film_at k i = get_or (films_of k.shelf) i no_film

abbrev pub with_film : ℕ → Film → Core → Core
with_film i f k = with_films (set (films_of k.shelf) i f) k

unfoldable pub film_set : Core → ℕ → Listing → Core
film_set k i l = with_film i (film_with l (film_at k i)) k

abbrev pub with_boxes : List ImageBox → Film → Film
with_boxes boxes f = record {
  name = f.name;
  session = f.session;
  layout = f.layout;
  orientation = f.orientation;
  magnification = f.magnification;
  first = f.first;
  boxes = boxes;
}

abbrev pub box_set_in : ℕ → ℕ → Listing → Film → Film
box_set_in next j l f = with_boxes (set f.boxes j (box_with next l (get_or f.boxes j no_box))) f

abbrev pub numbers_after : Image → Numbers → Numbers
numbers_after image n = pick (is_fill image) (picture_used n) n

unfoldable pub box_set : Core → ℕ → ℕ → Listing → Core
box_set k i j l =
    with_numbers (numbers_after (image_in l) k.numbers)
    (with_film i (box_set_in k.numbers.picture j l (film_at k i)) k)

-- N-DELETE: "Deletion takes all below it."

unfoldable pub session_deleted : Core → ℕ → Core
session_deleted k i = with_session i no_session (with_films (those (λ f. not (under i f)) (films_of k.shelf)) k)

unfoldable pub film_deleted : Core → ℕ → Core
film_deleted k i = with_films (without i (films_of k.shelf)) k

-- N-ACTION: printing.

-- the picture at a position, 0 where none is
unfoldable pub picture_on : List ImageBox → ℕ → Picture
picture_on [] position = picture 0
picture_on (b ∷ bs) position = pick (both (filled b) (eqb b.position position)) b.picture (picture_on bs position)

unfoldable pub entry_of : Core → ℕ → Film → Entry
entry_of k ticket f = record {
  pictures = map (picture_on (boxes_of f)) (from 1 most_boxes);
  ticket = ticket;
  copies = (session_at k f.session).copies;
  film = f.name;
}

-- "A session queues its films in creation order."
unfoldable pub entries_for : Core → ℕ → List Film → List Entry
entries_for k ticket [] = []
entries_for k ticket (f ∷ films) = entry_of k ticket f ∷ entries_for k (next_ticket ticket) films

unfoldable pub ticket_after : ℕ → List Film → ℕ
ticket_after ticket [] = ticket
ticket_after ticket (f ∷ films) = ticket_after (next_ticket ticket) films

abbrev pub ticketed : ℕ → Numbers → Numbers
ticketed t n = record { used = n.used; root = n.root; serial = n.serial; picture = n.picture; ticket = t }

unfoldable pub printed : Core → List Film → Core
printed k films =
    with_queue (entries_of k.queue ++ entries_for k k.numbers.ticket films)
    (with_numbers (ticketed (ticket_after k.numbers.ticket films) k.numbers) k)

unfoldable pub filled_boxes : List ImageBox → List ImageBox
filled_boxes [] = []
filled_boxes (b ∷ bs) = pick (filled b) (b ∷ filled_boxes bs) (filled_boxes bs)

abbrev pub none_filled : Film → Bool
none_filled f = not (any filled (boxes_of f))

abbrev pub queue_room : Core → ℕ
queue_room k = most_entries - length (entries_of k.queue)
