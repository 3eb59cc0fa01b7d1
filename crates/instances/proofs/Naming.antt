-- The instance that a UID names, by what the searches find.
-- Assumes nothing.
use Prim.Native.Nat.{ℕ, zero, suc, ◌-◌, ◌<◌, ◌≤◌}
use mathlib.Core.Path.{◌≡◌, refl, sym, ap, ◌∙◌}
use mathlib.Core.Bool.{true, false}
use mathlib.Core.List.{List, [], ◌∷◌}
use native.Mathlib.Omega.{arith}
use lib.Dec.{leb, ltb}
use lib.ListN.{length, get_or}
use borrow.Author.Tests.{lt-ltb, le-ltb, ltb-true, leb-true}
use Rattle.choice.proofs.Picks.{both_true}
use Rattle.rules.specs.declared.Numbers.{Numbers}
use Rattle.rules.specs.declared.Session.{Session}
use Rattle.rules.specs.declared.Film.{Film}
use Rattle.rules.specs.declared.Shelf.{Shelf}
use Rattle.rules.specs.declared.Core.{Core}
use Rattle.rules.specs.Lists.{any, place_of}
use Rattle.rules.specs.declared.Instance.TheVariants.{Nobody, TheSession, TheFilm, TheBox}
use Rattle.rules.specs.Records.{no_film, box_count, films_of, the_session, root_of, session_named, film_named, box_named, named}
use Rattle.instances.specs.There.{AllFit}
use Rattle.instances.specs.Serials.{MadeOf, box_serial}
use Rattle.instances.proofs.Places.{any_place, place_passes}
use Rattle.instances.proofs.Serials.{box_place, film_by_serial}

-- what stands in the list does not depend on what stands behind it
pub get_d_within : {A : Type 0} (xs : List A) (i : ℕ) (d e : A) → i < length xs → get_or xs i d ≡ get_or xs i e
get_d_within [] i d e h = absurd (omega arith)
get_d_within (x ∷ xs) zero d e h = refl
get_d_within (x ∷ xs) (suc i) d e h = get_d_within xs i d e (omega arith)

-- of a core with these parts
module _ (k : Core) (n : Numbers) (s : Session) (shelf : Shelf) (en : k.numbers ≡ n) (es : the_session k ≡ s) (ef : k.shelf ≡ shelf) (uid : List ℕ) where
  pub names_session : session_named n uid s ≡ true → TheSession ≡ named k uid
  unfolding named
  names_session e = rw (en, es, e)

  module _ (other : session_named n uid s ≡ false) where
    pub names_film : (i : ℕ) → i ≡ place_of (film_named n uid) (films_of shelf) → i < length (films_of shelf) → TheFilm i ≡ named k uid
    unfolding named
    names_film i at h =
        let inside : place_of (film_named n uid) (films_of shelf) < length (films_of shelf) = omega arith in
        rw (en, es, ef, other, any_place (film_named n uid) (films_of shelf), lt-ltb _ _ inside, at)

    module _ (f : length (films_of shelf) ≤ place_of (film_named n uid) (films_of shelf)) where
      no_film_lem : any (film_named n uid) (films_of shelf) ≡ false
      no_film_lem = any_place (film_named n uid) (films_of shelf) ∙ le-ltb _ _ f

      module _ (serial : ℕ) (m : MadeOf (root_of n) uid serial) (fit : AllFit (films_of shelf)) where
        by_serial_lem : place_of (box_named n uid) (films_of shelf) ≡ place_of (box_serial serial) (films_of shelf)
        by_serial_lem = film_by_serial n uid serial m (films_of shelf) fit

        pub names_nobody : length (films_of shelf) ≤ place_of (box_serial serial) (films_of shelf) → Nobody ≡ named k uid
        unfolding named
        names_nobody h = rw (en, es, ef, other, no_film_lem, any_place (box_named n uid) (films_of shelf), le-ltb (place_of (box_named n uid) (films_of shelf)) (length (films_of shelf)) (omega (arith, by_serial_lem, h)))

        module _ (i : ℕ) (at : i ≡ place_of (box_serial serial) (films_of shelf)) (h : i < length (films_of shelf)) where
          abbrev film : Film
          film = get_or (films_of shelf) i no_film

          has : box_serial serial film ≡ true
          has =
              ap (λ j. box_serial serial (get_or (films_of shelf) j no_film)) at
              ∙ place_passes (box_serial serial) (films_of shelf) no_film (omega (arith, at, h))

          holds : (leb film.first.0 serial ≡ true) × (ltb (serial - film.first.0) (box_count film.layout) ≡ true)
          unfolding box_serial
          holds = both_true (leb film.first.0 serial) (ltb (serial - film.first.0) (box_count film.layout)) has

          -- the serial is not below the first
          pub box_from : film.first.0 ≤ serial
          box_from = leb-true _ _ holds.0

          pub names_box : TheBox i (serial - film.first.0) ≡ named k uid
          unfolding named
          names_box =
              let place = box_place n uid serial m film (fit i no_film h) has in
              let first : place_of (box_named n uid) (films_of shelf) ≡ i = by_serial_lem ∙ sym at in
              rw (en, es, ef, other, no_film_lem, any_place (box_named n uid) (films_of shelf), lt-ltb (place_of (box_named n uid) (films_of shelf)) (length (films_of shelf)) (omega (arith, first, h)), first, place)

          pub box_there : serial - film.first.0 < box_count film.layout
          box_there = ltb-true _ _ holds.1
