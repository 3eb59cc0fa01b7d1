-- What is written for a change is the whole core as the change makes it.
-- Assumes nothing.
use Prim.Native.Nat.{ℕ, ◌+◌, ◌*◌, ◌<◌, ◌≤◌}
use mathlib.Core.Path.{◌≡◌, refl, sym, ap, ◌∙◌}
use mathlib.Core.List.{List, [], ◌∷◌, ◌++◌}
use native.Mathlib.Omega.{arith}
use lib.ListN.{length, get_or, length-take}
use Rattle.octets.specs.Octets.{number_at, Bytes}
use Rattle.fields.specs.Format.{write, byte, number}
use Rattle.rules.specs.declared.Numbers.{Numbers}
use Rattle.rules.specs.declared.Session.{Session}
use Rattle.rules.specs.declared.ImageBox.{ImageBox}
use Rattle.rules.specs.declared.Film.{Film}
use Rattle.rules.specs.declared.Shelf.{Shelf}
use Rattle.rules.specs.declared.Core.{Core}
use Rattle.rules.specs.Bounds.{most_films, most_boxes}
use Rattle.rules.specs.Records.{no_film, films_of, shelved, with_numbers, with_session, with_films, serials_used, picture_used}
use Rattle.rules.specs.Effects.{film_at, with_film}
use Rattle.rules.specs.Layout.{records_size, numbers_size, core_format, numbers_format, session_format, name_format, serial_format, shelf_format, film_format, film_size, box_format, box_size}
use Rattle.rules.proofs.Steps.{core_steps}
use Rattle.shelves.proofs.Filled.{Holds, holds_more, holds_set}
use Rattle.shelves.proofs.Within.{few_below, few_at}
use Rattle.records.specs.Places.{shelf_place, core_in}
use Rattle.changes.specs.Changes.{Tidy, FilmThere}
use Rattle.changes.proofs.Spots.{serial_place, picture_place, films_place, boxes_place, with_serial, with_picture, counting, film_anew, box_anew, with_shelf, serial_written, picture_written, session_written, count_written, film_written, box_written, held}

module _ (b : List ℕ) (o : Bytes b) (h : records_size ≤ length b) where
  serial_read : number_at 5 b serial_place ≡ (core_in b).numbers.serial
  unfolding core_format numbers_format
  serial_read = refl

  picture_read : number_at 5 b picture_place ≡ (core_in b).numbers.picture
  unfolding core_format numbers_format
  picture_read = refl

  pub serials_put : (r n : ℕ) → r ≡ number_at 5 b serial_place
      → write (number 5) (r + n) b serial_place ≡ write core_format (with_numbers (serials_used n (core_in b).numbers) (core_in b)) b 0
  serials_put r n e =
      serial_written b b (core_in b) h (held b o h) (r + n)
      ∙ ap (λ (m : ℕ). write core_format (with_numbers (with_serial (m + n) (core_in b).numbers) (core_in b)) b 0) (e ∙ serial_read)

  pub picture_put : (r : ℕ) → r ≡ number_at 5 b picture_place
      → write (number 5) (r + 1) b picture_place ≡ write core_format (with_numbers (picture_used (core_in b).numbers) (core_in b)) b 0
  picture_put r e =
      picture_written b b (core_in b) h (held b o h) (r + 1)
      ∙ ap (λ (m : ℕ). write core_format (with_numbers (with_picture (m + 1) (core_in b).numbers) (core_in b)) b 0) (e ∙ picture_read)

-- The shelf, whose places past the count are blank.

module _ (k : Core) (tidy : Tidy k) where
  pub holds : Holds most_films no_film k.shelf.count k.shelf.films (films_of k.shelf)
  unfolding shelved
  holds = record { counted = sym (ap (λ (s : Shelf). s.count) tidy.0); placed = sym (ap (λ (s : Shelf). s.films) tidy.0) }

  pub shelf_of_lem : (count : ℕ) (places films : List Film) → Holds most_films no_film count places films
      → ◌≡◌ {A = Core} (with_shelf (record { count = count; films = places }) k) (with_films films k)
  unfolding shelved
  shelf_of_lem count places films held = rw (held.counted, held.placed)

  pub film_replaced : (i : ℕ) (f : Film) → FilmThere k i → with_shelf (film_anew i f k.shelf) k ≡ with_film i f k
  film_replaced i f j = shelf_of_lem _ _ _ (holds_set most_films no_film _ _ _ holds i f j)

  pub film_added : (f : Film) → k.shelf.count < most_films
      → with_shelf (counting (k.shelf.count + 1) (film_anew k.shelf.count f k.shelf)) k ≡ with_films (films_of k.shelf ++ (f ∷ [])) k
  film_added f l = shelf_of_lem _ _ _ (holds_more most_films no_film _ _ _ holds f l)

-- the arrays of records that were read have all their places
module _ (k : Core) (g : core_format.Good k) where
  pub films_length : length k.shelf.films ≡ most_films
  unfolding core_format shelf_format
  films_length = g.1.1.0.1.0

  boxes_length : (i : ℕ) → i < most_films → length (get_or k.shelf.films i film_format.blank).boxes ≡ most_boxes
  unfolding core_format shelf_format film_format
  boxes_length i h = (g.1.1.0.1.1 i h).1.1.1.1.1.1.0

  module _ (i : ℕ) (h : FilmThere k i) where
    film_place_lem : i < most_films
    unfolding films_of
    film_place_lem = omega (arith, (few_below k.shelf.films k.shelf.count i h).1, films_length)

    film_there : film_at k i ≡ get_or k.shelf.films i film_format.blank
    unfolding films_of
    film_there = sym (few_at k.shelf.films k.shelf.count i film_format.blank no_film h)

    boxes_there : length (film_at k i).boxes ≡ most_boxes
    boxes_there = ap (λ (f : Film). length f.boxes) film_there ∙ boxes_length i film_place_lem

module _ (b : List ℕ) (o : Bytes b) (h : records_size ≤ length b) where
  pub good : core_format.Good (core_in b)
  good = core_steps.laws.good b 0 o

  -- a film that is shelved has its place
  pub place_below : (i : ℕ) → FilmThere (core_in b) i → i < most_films
  place_below i j = film_place_lem (core_in b) good i j

  pub count_read : get_or b shelf_place 0 ≡ (core_in b).shelf.count
  unfolding core_format numbers_format session_format name_format serial_format shelf_format
  count_read = refl

  pub count_most : Tidy (core_in b) → (core_in b).shelf.count ≤ most_films
  unfolding films_of
  count_most tidy = omega (arith, (holds (core_in b) tidy).counted, length-take (core_in b).shelf.count (core_in b).shelf.films, films_length (core_in b) good)

  -- where a film is, there is one
  pub count_some : (i : ℕ) → Tidy (core_in b) → FilmThere (core_in b) i → 1 ≤ get_or b shelf_place 0
  count_some i tidy j = omega (arith, count_read, (holds (core_in b) tidy).counted, j)

  pub session_set_lem : (s : Session) → write session_format s b numbers_size ≡ write core_format (with_session 0 s (core_in b)) b 0
  session_set_lem s = session_written b b (core_in b) h (held b o h) s

  pub film_set_lem : (i : ℕ) (f : Film) → Tidy (core_in b) → FilmThere (core_in b) i
      → write film_format f b (films_place + i * film_size) ≡ write core_format (with_film i f (core_in b)) b 0
  film_set_lem i f tidy j =
      film_written b b (core_in b) h (held b o h) i f (place_below i j) (films_length (core_in b) good)
      ∙ ap (λ (k : Core). write core_format k b 0) (film_replaced (core_in b) tidy i f j)

  -- t has the numbers anew already
  module _ (n : Numbers) (t : List ℕ) (e : t ≡ write core_format (with_numbers n (core_in b)) b 0) (tidy : Tidy (core_in b)) where
    abbrev k : Core
    k = with_numbers n (core_in b)

    pub box_set_lem : (i j : ℕ) (x : ImageBox) → FilmThere (core_in b) i → j < most_boxes
        → write box_format x t (films_place + i * film_size + boxes_place + j * box_size) ≡ write core_format (with_numbers n (with_film i (box_anew j x (film_at (core_in b) i)) (core_in b))) b 0
    box_set_lem i j x u v =
        box_written b t k h e i (film_at (core_in b) i) j x (place_below i u) (films_length (core_in b) good) v (boxes_there (core_in b) good i u) (film_there (core_in b) good i u)
        ∙ ap (λ (a : Core). write core_format a b 0) (film_replaced k tidy i (box_anew j x (film_at (core_in b) i)) u)

    pub film_created_lem : (c : ℕ) (f : Film) → c ≡ (core_in b).shelf.count → c < most_films
        → write byte (c + 1) (write film_format f t (films_place + c * film_size)) shelf_place ≡ write core_format (with_films (films_of (core_in b).shelf ++ (f ∷ [])) k) b 0
    film_created_lem c f d l =
        let d₁ = film_written b t k h e c f l (films_length (core_in b) good) in
        count_written b (write film_format f t (films_place + c * film_size)) (with_shelf (film_anew c f (core_in b).shelf) k) h d₁ (c + 1)
        ∙ ap (λ (m : ℕ). write core_format (with_shelf (counting (m + 1) (film_anew m f (core_in b).shelf)) k) b 0) d
        ∙ ap (λ (a : Core). write core_format a b 0) (film_added k tidy f (rw d at l))
