-- What the tests of a film's serials told, one by one.
-- Assumes nothing.
use Prim.Native.Nat.{ℕ}
use mathlib.Core.Path.{◌≡◌, sym, ap, ◌∙◌}
use mathlib.Core.Bool.{Bool, true, false}
use mathlib.Core.List.{List}
use lib.Dec.{eqb}
use Rattle.choice.specs.Pick.{pick, both, not}
use Rattle.rules.specs.declared.Film.{Film}
use Rattle.rules.specs.Records.{box_count}
use Rattle.rules.specs.Layout.{name_format, film_format}
use Rattle.rules.specs.Sound.{Serials, overlap, own_serial}
use Rattle.distinct.specs.Apart.{serials, box_serials, free_of_film, serials_free, film_apart}

-- the serial of a name, and of a film's
module _ (b : List ℕ) (p own owned : ℕ) (made : own ≡ (name_format.read b p).made.0) (has : owned ≡ pick (eqb own 0) 0 1) where
  pub own_told : serials own owned ≡ own_serial (name_format.read b p)
  own_told = rw (has, made)

  pub film_told : serials own owned ≡ own_serial (film_format.read b p).name
  unfolding film_format
  film_told = own_told

-- those of its boxes
pub boxes_told : (f : Film) (first count : ℕ) → first ≡ f.first.0 → count ≡ box_count f.layout → serials first count ≡ box_serials f
boxes_told f first count e d = rw (e, d)

module _ (f : Film) (own boxes : Serials) (o : own ≡ own_serial f.name) where
  pub taken_own : (s : Serials) → overlap s own ≡ true → false ≡ free_of_film s f
  taken_own s e = sym (ap (λ t. both (not t) (not (overlap s (box_serials f)))) (ap (overlap s) (sym o) ∙ e))

  module _ (x : boxes ≡ box_serials f) where
    pub free_own : (s : Serials) (t : Bool) → overlap s own ≡ false → overlap s boxes ≡ t → not t ≡ free_of_film s f
    free_own s t e d = sym (ap (λ u. both (not u) (not (overlap s (box_serials f)))) (ap (overlap s) (sym o) ∙ e) ∙ ap (λ u. not u) (ap (overlap s) (sym x) ∙ d))

    film_parts : (films : List Film) → film_apart f films ≡ both (not (overlap own boxes)) (both (serials_free own films) (serials_free boxes films))
    film_parts films =
        ap (λ (s : Serials). both (not (overlap s (box_serials f))) (both (serials_free s films) (serials_free (box_serials f) films))) (sym o)
        ∙ ap (λ (s : Serials). both (not (overlap own s)) (both (serials_free own films) (serials_free s films))) (sym x)

    pub own_among : (films : List Film) → overlap own boxes ≡ true → false ≡ film_apart f films
    own_among films e = sym (film_parts films ∙ ap (λ (t : Bool). both (not t) (both (serials_free own films) (serials_free boxes films))) e)

    module _ (films : List Film) (e : overlap own boxes ≡ false) where
      past : film_apart f films ≡ both (serials_free own films) (serials_free boxes films)
      past = film_parts films ∙ ap (λ (t : Bool). both (not t) (both (serials_free own films) (serials_free boxes films))) e

      pub own_taken : serials_free own films ≡ false → false ≡ film_apart f films
      own_taken d = sym (past ∙ rw d)

      pub own_apart : (r : Bool) → serials_free own films ≡ true → r ≡ serials_free boxes films → r ≡ film_apart f films
      own_apart r d g = g ∙ sym (past ∙ rw d)
