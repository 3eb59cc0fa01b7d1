-- Names, films and their fields are read where they lie.
-- Assumes nothing.
use Prim.Native.Nat.{ℕ, ◌+◌, ◌≤◌}
use mathlib.Core.Path.{◌≡◌, refl, sym, ap, ◌∙◌}
use mathlib.Core.List.{List}
use native.Mathlib.Omega.{arith}
use lib.ListN.{length, get_or}
use lib.Seq.{take_all}
use Rattle.octets.specs.Octets.{number_at, part}
use Rattle.fields.specs.Format.{byte, array, read_all}
use Rattle.rules.specs.Bounds.{most_films}
use Rattle.rules.specs.Layout.{name_size, serial_format, name_format, layout_format, film_format, shelf_format}
use Rattle.records.proofs.Texts.{text_front}
use Rattle.records.specs.Places.{shelf_place, shelf_in}

module _ (b : List ℕ) where
  pub shelf_count : (shelf_in b).count ≡ get_or b shelf_place 0
  unfolding shelf_format
  shelf_count = refl

  pub film_places : length (shelf_in b).films ≡ most_films
  unfolding shelf_format read_all
  film_places = refl

module _ (b : List ℕ) (p : ℕ) where
  pub film_name : (film_format.read b p).name ≡ name_format.read b p
  unfolding film_format
  film_name = refl

  pub film_layout : (film_format.read b p).layout ≡ layout_format.read b (p + 70)
  unfolding film_format name_format serial_format
  film_layout = let e : p + 69 + 1 ≡ p + 70 = omega arith in ap (layout_format.read b) e

  pub film_first : (film_format.read b p).first.0 ≡ number_at 4 b (p + 80)
  unfolding film_format name_format serial_format layout_format
  film_first = let e : p + 69 + 1 + 8 + 1 + 1 ≡ p + 80 = omega arith in ap (number_at 4 b) e

  pub name_made : (name_format.read b p).made.0 ≡ number_at 4 b p
  unfolding name_format serial_format
  name_made = refl

  pub name_used : (name_format.read b p).used ≡ get_or b (p + 4) 0
  unfolding name_format serial_format
  name_used = refl

pub name_text : (b : List ℕ) (p : ℕ) → p + name_size ≤ length b → (name_format.read b p).text ≡ part b (p + 4 + 1) (p + 4 + 1 + 64)
unfolding name_format serial_format read_all
name_text b p h = sym (take_all 64 ((array 64 byte).read b (p + 4 + 1)) (omega arith)) ∙ text_front b (p + 4 + 1) 64 (omega arith) 64 (omega arith)
