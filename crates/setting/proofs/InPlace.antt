-- What an N-SET reads in the records' bytes is what the core holds there.
-- Assumes nothing.
use Prim.Native.Nat.{ℕ, ◌+◌, ◌*◌, ◌<◌}
use mathlib.Core.Path.{◌≡◌, refl, sym, ap, subst, ◌∙◌}
use mathlib.Core.Bool.{true}
use mathlib.Core.List.{List}
use native.Mathlib.Omega.{arith}
use lib.ListN.{length, get_or}
use Rattle.octets.specs.Octets.{number_at}
use Rattle.fields.specs.Format.{read_all}
use Rattle.fields.proofs.Laws.{get_read}
use Rattle.rules.specs.declared.Film.{Film}
use Rattle.rules.specs.declared.Shelf.{Shelf}
use Rattle.rules.specs.Bounds.{most_films, most_boxes}
use Rattle.rules.specs.Records.{no_box, no_film, films_of}
use Rattle.rules.specs.Effects.{film_at}
use Rattle.rules.specs.Sound.{core_sound}
use Rattle.rules.specs.Layout.{serial_format, picture_format, name_format, box_format, layout_format, film_format, shelf_format, numbers_format, core_format}
use Rattle.rules.proofs.Sizes.{film_size_lem}
use Rattle.promises.proofs.Tidy.{shelf_few}
use Rattle.records.specs.Places.{shelf_place, shelf_in, core_in}
use Rattle.records.proofs.Parts.{core_shelf}
use Rattle.shelves.proofs.Within.{few_below, few_at}

-- a film's layout, and one of its boxes
module _ (b : List ℕ) (p : ℕ) where
  film_layout : layout_format.read b (p + 70) ≡ (film_format.read b p).layout
  unfolding film_format name_format serial_format
  film_layout = let e : p + 70 ≡ p + 69 + 1 = omega arith in ap (layout_format.read b) e

  film_box : (j : ℕ) → j < most_boxes → box_format.read b (p + 84 + j * 6) ≡ get_or (film_format.read b p).boxes j no_box
  unfolding film_format name_format serial_format layout_format box_format picture_format
  film_box j h =
      let e : p + 84 ≡ p + 69 + 1 + 8 + 1 + 1 + 4 = omega arith in
      sym (get_read box_format b (p + 84) most_boxes j h) ∙ ap (λ (q : ℕ). get_or (read_all box_format b q most_boxes) j no_box) e

shelved_film : (b : List ℕ) (i : ℕ) → i < most_films → i < length (films_of (shelf_in b)) → film_format.read b (193 + i * 300) ≡ get_or (films_of (shelf_in b)) i no_film
unfolding films_of shelf_format
shelved_film b i few there =
    let films = read_all film_format b (shelf_place + 1) most_films in
    let at : 193 + i * 300 ≡ shelf_place + 1 + i * film_format.size = rw film_size_lem in
    ap (film_format.read b) at ∙ sym (get_read film_format b (shelf_place + 1) most_films i few) ∙ few_at films (get_or b shelf_place 0) i film_format.blank no_film there

module _ (b : List ℕ) where
  pub picture_read : number_at 5 b 46 ≡ (core_in b).numbers.picture
  unfolding core_format numbers_format
  picture_read = refl

  module _ (sound : core_sound (core_in b) ≡ true) (i : ℕ) (there : i < length (films_of (core_in b).shelf)) where
    pub film_place_lem : i < most_films
    unfolding films_of
    film_place_lem = omega (arith, shelf_few (core_in b) sound, (few_below (core_in b).shelf.films (core_in b).shelf.count i there).0)

    pub film_read : film_format.read b (193 + i * 300) ≡ film_at (core_in b) i
    film_read =
        shelved_film b i film_place_lem (subst (λ (s : Shelf). i < length (films_of s)) (core_shelf b) there)
        ∙ sym (ap (λ (s : Shelf). get_or (films_of s) i no_film) (core_shelf b))

    pub layout_read : layout_format.read b (193 + i * 300 + 70) ≡ (film_at (core_in b) i).layout
    layout_read = film_layout b (193 + i * 300) ∙ ap (λ (f : Film). f.layout) film_read

    pub box_read : (j : ℕ) → j < most_boxes → box_format.read b (193 + i * 300 + 84 + j * 6) ≡ get_or (film_at (core_in b) i).boxes j no_box
    box_read j h = film_box b (193 + i * 300) j h ∙ ap (λ (f : Film). get_or f.boxes j no_box) film_read
