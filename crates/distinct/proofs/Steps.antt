-- A test of the first few films that goes on from each to those behind it.
-- Assumes nothing.
use Prim.Native.Nat.{ℕ, ◌+◌, ◌<◌, ◌≤◌}
use mathlib.Core.Path.{◌≡◌, refl}
use mathlib.Core.Bool.{Bool, true, false}
use mathlib.Core.List.{List, [], ◌∷◌}
use denote.Param.Members.{Mut, Called}
use lib.ListN.{drop}
use Rattle.std.specs.Iterator.{ChecksAll}
use Rattle.std.proofs.iter.Yields.{nat_range_steps}
use Rattle.rules.specs.declared.Film.{Film}
use Rattle.rules.specs.Bounds.{most_films}
use Rattle.rules.specs.Layout.{serial_format, picture_format, name_format, layout_format, box_format, film_format, shelf_format}
use Rattle.records.specs.Places.{shelf_place}
use Rattle.distinct.specs.Films.{film_place, films_in}
use Rattle.distinct.proofs.InPlace.{film_places}
use Rattle.distinct.proofs.Arrays.{next_read, none_read}
use Rattle.distinct.proofs.Ranges.{Stepwise, all_told, passes_told}

-- the films from one on
pub next_film : (b : List ℕ) (n i p : ℕ) → i < n → n ≤ most_films → p ≡ film_place i → drop i (films_in b n) ≡ film_format.read b p ∷ drop (i + 1) (films_in b n)
unfolding shelf_format film_format name_format serial_format layout_format box_format picture_format
next_film b n i p l h e = next_read film_format b (shelf_place + 1) most_films n i (film_places b) p e l h

pub no_film_lem : (b : List ℕ) (n i : ℕ) → n ≤ i → drop i (films_in b n) ≡ []
unfolding shelf_format
no_film_lem b n i h = none_read film_format b (shelf_place + 1) most_films n i h

-- by what the code's `all` told of the films from one on
module _ {passes : List Film → Bool} {step : Film → List Film → Bool} (s : Stepwise passes step) (b : List ℕ) (n : ℕ) where
  -- the film at a place passes
  abbrev pub passes_at : ℕ → Bool
  passes_at k = step (film_format.read b (film_place k)) (drop (k + 1) (films_in b n))

  pub films_told : n ≤ most_films → (i : ℕ) {F : Type 0} {g : Mut F (ℕ × Unit {0}) Bool} {u : _} (f : F) (r : Bool) → ChecksAll nat_range_steps g (record { start = i; end = n }) f r u
      → ((x : ℕ) (q : F) → Called g f (x, tt) true q → (q ≡ f) × (passes_at x ≡ true)) → ((x : ℕ) (q : F) → Called g f (x, tt) false q → passes_at x ≡ false) → r ≡ passes (drop i (films_in b n))
  films_told few i f r ran passed failed =
      passes_told s (films_in b n) n (λ k. film_format.read b (film_place k)) (λ k l. next_film b n k (film_place k) l few refl) (λ k h. no_film_lem b n k h)
      i r (all_told passes_at i n f r ran passed failed)
