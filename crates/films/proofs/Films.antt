-- A film and the shelf by their bytes; a test of each film.
-- Assumes nothing.
use Prim.Native.Nat.{ℕ, zero, suc, ◌+◌, ◌*◌, ◌-◌, ◌≤◌}
use mathlib.Core.Path.{◌≡◌, refl, sym, ap, ◌∙◌}
use mathlib.Core.Bool.{Bool, true, false}
use mathlib.Core.List.{List, [], ◌∷◌}
use native.Mathlib.Omega.{arith}
use lib.Dec.{eqb, leb}
use lib.ListN.{length, get_or, take, drop}
use Rattle.choice.specs.Pick.{both, not}
use Rattle.choice.proofs.Picks.{both_assoc}
use Rattle.octets.specs.Octets.{part}
use Rattle.fields.specs.Format.{array}
use Rattle.rules.specs.declared.Session.{Session}
use Rattle.rules.specs.Bounds.{most_films, most_boxes}
use Rattle.rules.specs.Lists.{every}
use Rattle.rules.specs.Layout.{film_size, records_size, serial_format, name_format, layout_format, box_format, film_format, shelf_format}
use Rattle.rules.specs.Records.{box_count, boxes_of, films_of, no_session, is_live}
use Rattle.rules.specs.Sound.{all, zeros, name_sound, layout_sound, box_sound, box_blank, film_blank, film_sound, has_session, shelf_sound}
use Rattle.records.specs.Places.{shelf_place, queue_place, numbers_in, session_in, shelf_in}
use Rattle.records.proofs.Blank.{films_blank}
use Rattle.distinct.specs.Films.{film_place, films_in}
use Rattle.films.specs.Fit.{boxes_fit}

-- a film's tests, by what was read of it
pub film_told : (b : List ℕ) (p first count serial : ℕ) {r : Bool}
    → (let f = film_format.read b p in first ≡ f.first.0 → count ≡ box_count f.layout → serial ≡ (numbers_in b).serial
    → r ≡ all (name_sound (numbers_in b) (name_format.read b p)
    ∷ layout_sound (layout_format.read b (p + 69 + 1))
    ∷ leb (get_or b (p + 69 + 1 + 8) 0) 1
    ∷ leb (get_or b (p + 69 + 1 + 8 + 1) 0) 3
    ∷ leb 1 first
    ∷ leb (first + count) serial
    ∷ boxes_fit count (numbers_in b) ((array most_boxes box_format).read b (p + 69 + 1 + 8 + 1 + 1 + 4))
    ∷ [])
    → r ≡ film_sound (numbers_in b) f)
unfolding film_sound boxes_of film_format name_format serial_format layout_format every
film_told b p first count serial e d g t =
    let f = film_format.read b p in
    let n = numbers_in b in
    t ∙ sym (rw (e, d, g) (ap (λ (t : Bool). both (name_sound n f.name) (both (layout_sound f.layout) (both (leb f.orientation 1) (both (leb f.magnification 3) (both (leb 1 f.first.0) (both (leb (f.first.0 + box_count f.layout) n.serial) t))))))
    (both_assoc (every (box_sound (box_count f.layout) n) (take (box_count f.layout) f.boxes)) (every box_blank (drop (box_count f.layout) f.boxes)) true)))

-- there is no place for a session but the first
pub elsewhere : (s : Session) (i : ℕ) → (i ≡ 0 → ⊥) → false ≡ is_live (get_or (s ∷ []) i no_session)
elsewhere s zero h = absurd (h refl)
elsewhere s (suc i) h = refl

pub there : (s : Session) (i : ℕ) (t : Bool) → i ≡ 0 → eqb s.live 0 ≡ t → not t ≡ is_live (get_or (s ∷ []) i no_session)
there s i t e d = rw (e, d)

-- the shelf's tests
pub shelf_told : (b : List ℕ) (count : ℕ) {r : Bool} → count ≡ get_or b shelf_place 0 → (let n = numbers_in b in let sessions = session_in b ∷ [] in
    r ≡ all (leb count most_films ∷ every (has_session sessions) (films_in b count) ∷ every (film_sound n) (films_in b count) ∷ every film_blank (drop count (shelf_in b).films) ∷ [])
    → r ≡ shelf_sound n sessions (shelf_in b))
unfolding shelf_sound films_of shelf_format
shelf_told b count e t = t ∙ rw e

-- the places behind the films are zeros
pub rest_blank : (b : List ℕ) (k : ℕ) → k ≤ most_films → records_size ≤ length b → every film_blank (drop k (shelf_in b).films) ≡ zeros (part b (film_place k) queue_place)
unfolding shelf_format
rest_blank b k h l =
    let e : (most_films - k) * film_size ≡ queue_place - film_place k = omega arith in
    films_blank b (shelf_place + 1) k h (omega arith) ∙ ap (λ (m : ℕ). zeros (take m (drop (film_place k) b))) e
