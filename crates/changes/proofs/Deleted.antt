-- What is deleted: the bytes of what is not there are zeros, and the films behind one that goes move down.
-- Assumes nothing.
use Prim.Native.Nat.{ℕ, ◌+◌, ◌*◌, ◌-◌, ◌≤◌}
use mathlib.Core.Path.{◌≡◌, refl, sym, ap, ◌∙◌}
use mathlib.Core.List.{List, []}
use native.Mathlib.Omega.{arith}
use lib.ListN.{length, replicate, length-replicate, replicate-append-replicate}
use Rattle.octets.specs.Octets.{part, octets, laid, Bytes}
use Rattle.octets.proofs.Laid.{laid_then}
use Rattle.fields.specs.Format.{write, byte, bytes_all}
use Rattle.rules.specs.declared.Film.{Film}
use Rattle.rules.specs.declared.Core.{Core}
use Rattle.rules.specs.Bounds.{most_films}
use Rattle.rules.specs.Records.{no_film, shelved, no_session, with_session, with_films}
use Rattle.rules.specs.Effects.{session_deleted, film_deleted}
use Rattle.rules.specs.Layout.{records_size, numbers_size, session_size, shelf_size, film_size, core_format, session_format, name_format, serial_format, shelf_format, layout_format, picture_format, film_format, box_format}
use Rattle.shelves.proofs.Filled.{holds_without}
use Rattle.records.specs.Places.{shelf_place, queue_place, core_in}
use Rattle.changes.specs.Changes.{Tidy, FilmThere, NoneBeside}
use Rattle.changes.proofs.Spots.{films_place, counting, lacking, with_shelf, session_written, shelf_written, count_written, further, lacking_written, further_length, further_stands, held}
use Rattle.changes.proofs.Changed.{good, films_length, place_below, count_most, holds, shelf_of_lem}

-- A session, with all its films.

no_session_bytes : session_format.bytes no_session ≡ replicate session_size 0
unfolding session_format name_format serial_format octets bytes_all
no_session_bytes = refl

no_films_bytes : shelf_format.bytes (shelved []) ≡ replicate shelf_size 0
unfolding shelved shelf_format film_format name_format serial_format layout_format box_format picture_format octets bytes_all
no_films_bytes = refl

zeros_joined : (b : List ℕ) (at m n : ℕ) → at + m ≤ length b → laid (laid b at (replicate m 0)) (at + m) (replicate n 0) ≡ laid b at (replicate (m + n) 0)
zeros_joined b at m n h =
    let l : length {A = ℕ} (replicate m 0) ≡ m = length-replicate m 0 in
    ap (λ (k : ℕ). laid (laid b at (replicate m 0)) (at + k) (replicate n 0)) (sym l)
    ∙ laid_then b at (replicate m 0) (omega arith) (replicate n 0)
    ∙ ap (laid b at) (replicate-append-replicate m n 0)

blanks_laid : (b : List ℕ) → records_size ≤ length b
    → laid b numbers_size (replicate (session_size + shelf_size) 0) ≡ write shelf_format (shelved []) (write session_format no_session b numbers_size) shelf_place
unfolding write
blanks_laid b h =
    sym (ap (λ (x : List ℕ). laid (laid b numbers_size (session_format.bytes no_session)) shelf_place x) no_films_bytes
    ∙ ap (λ (x : List ℕ). laid (laid b numbers_size x) shelf_place (replicate shelf_size 0)) no_session_bytes
    ∙ zeros_joined b numbers_size session_size shelf_size (omega arith))

pub session_deleted_lem : (b : List ℕ) → Bytes b → records_size ≤ length b → NoneBeside (core_in b)
    → laid b numbers_size (replicate (session_size + shelf_size) 0) ≡ write core_format (session_deleted (core_in b) 0) b 0
unfolding session_deleted
session_deleted_lem b o h none =
    let k = core_in b in
    blanks_laid b h
    ∙ shelf_written b (write session_format no_session b numbers_size) (with_session 0 no_session k) h (session_written b b k h (held b o h) no_session) (shelved [])
    ∙ ap (λ (films : List Film). write core_format (with_session 0 no_session (with_films films k)) b 0) (sym none)

-- A film.

-- where the last film stands
abbrev pub last_place : ℕ
last_place = films_place + 7 * film_size

no_film_bytes : film_format.bytes no_film ≡ replicate film_size 0
unfolding film_format name_format serial_format layout_format box_format picture_format octets bytes_all
no_film_bytes = refl

module _ (b : List ℕ) (o : Bytes b) (h : records_size ≤ length b) (tidy : Tidy (core_in b)) (i : ℕ) (there : FilmThere (core_in b) i) where
  abbrev k : Core
  k = core_in b

  abbrev from : ℕ
  from = films_place + i * film_size

  rest : List ℕ
  rest = further b b k h (held b o h) i no_film (place_below b o h i there) (films_length k (good b o h))

  rest_length : length rest ≡ (7 - i) * film_size
  unfolding rest
  rest_length = further_length b b k h (held b o h) i no_film (place_below b o h i there) (films_length k (good b o h))

  lowered : laid (laid b from (part b (from + film_size) queue_place)) last_place (replicate film_size 0) ≡ write core_format (with_shelf (lacking i no_film k.shelf) k) b 0
  unfolding rest
  lowered =
      let below = place_below b o h i there in
      let l = films_length k (good b o h) in
      let last : last_place ≡ from + length rest = omega (arith, rest_length, below) in
      ap (λ (x : List ℕ). laid (laid b from x) last_place (replicate film_size 0)) (further_stands b b k h (held b o h) i no_film below l)
      ∙ ap (λ (n : ℕ). laid (laid b from rest) n (replicate film_size 0)) last
      ∙ ap (λ (x : List ℕ). laid (laid b from rest) (from + length rest) x) (sym no_film_bytes)
      ∙ laid_then b from rest (omega (arith, rest_length, below, h)) (film_format.bytes no_film)
      ∙ lacking_written b b k h (held b o h) i no_film below l

  pub film_deleted_lem : (c : ℕ) → c ≡ k.shelf.count
      → write byte (c - 1) (laid (laid b from (part b (from + film_size) queue_place)) last_place (replicate film_size 0)) shelf_place ≡ write core_format (film_deleted k i) b 0
  unfolding film_deleted
  film_deleted_lem c e =
      count_written b _ (with_shelf (lacking i no_film k.shelf) k) h lowered (c - 1)
      ∙ ap (λ (n : ℕ). write core_format (with_shelf (counting (n - 1) (lacking i no_film k.shelf)) k) b 0) e
      ∙ ap (λ (a : Core). write core_format a b 0) (shelf_of_lem k tidy _ _ _ (holds_without most_films no_film _ _ _ (holds k tidy) i there (count_most b o h tidy)))
