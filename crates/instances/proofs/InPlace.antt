-- What the functions read in the records' bytes is what the book's formats read there.
-- Assumes nothing.
use Prim.Native.Nat.{ℕ, zero, suc, ◌+◌, ◌*◌, ◌-◌, ◌<◌, ◌≤◌}
use mathlib.Core.Path.{◌≡◌, refl, sym, ◌∙◌}
use mathlib.Core.Bool.{false}
use mathlib.Core.List.{List, [], ◌∷◌}
use native.Mathlib.Numerals.{add-one}
use native.Mathlib.Omega.{arith}
use lib.ListN.{length, get_or, take, drop, length-append, length-drop}
use lib.Seq.{length-take-le, take-suc, get_or-drop, get_or-take}
use lib.Dec.{eqb}
use borrow.Author.Tests.{ne_eqb}
use Rattle.octets.specs.Octets.{number_at, same}
use Rattle.fields.specs.Format.{Format, byte, read_all}
use Rattle.fields.proofs.Laws.{get_read}
use Rattle.rules.specs.declared.Film.{Film}
use Rattle.rules.specs.declared.Numbers.{Numbers}
use Rattle.rules.specs.Bounds.{most_films, none_left}
use Rattle.rules.specs.Layout.{serial_format, name_format, session_format, layout_format, film_format, shelf_format, numbers_size, name_size}
use Rattle.rules.specs.Records.{root_of, films_of, uid_of, session_named}
use Rattle.rules.proofs.Sizes.{name_size_lem, layout_size_lem, film_size_lem}
use Rattle.records.specs.Places.{numbers_in, session_in, shelf_in, shelf_place}
use Rattle.instances.specs.Serials.{MadeOf}
use Rattle.instances.proofs.Naming.{get_d_within}

all_read : (s : List ℕ) (at n : ℕ) → at + n ≤ length s → read_all byte s at n ≡ take n (drop at s)
unfolding read_all
all_read s at zero h = refl
all_read s at (suc n) h =
    let k : n * 1 ≡ n = omega arith in
    sym (take-suc (drop at s) n 0 (omega (arith, length-drop at s)) ∙ rw (all_read s at n (omega arith), get_or-drop at s n 0, k))

length_read : {A : Type 0} (f : Format A) (s : List ℕ) (at n : ℕ) → length (read_all f s at n) ≡ n
unfolding read_all
length_read f s at zero = refl
length_read f s at (suc n) = length-append (read_all f s at n) (f.read s (at + n * f.size) ∷ []) ∙ rw (length_read f s at n) (add-one n)

positive : (n : ℕ) → (n ≡ 0 → ⊥) → 0 < n
positive zero h = absurd (h refl)
positive (suc n) h = omega arith

module _ (b : List ℕ) where
  -- a name
  module _ (p : ℕ) where
    name_made : (name_format.read b p).made.0 ≡ number_at 4 b p
    unfolding name_format serial_format
    name_made = refl

    text_read : p + name_size ≤ length b → (name_format.read b p).text ≡ take 64 (drop (p + 4 + 1) b)
    unfolding name_format serial_format
    text_read h = all_read b (p + 4 + 1) 64 (omega arith)

    used_read : (name_format.read b p).used ≡ get_or b (p + 4) 0
    unfolding name_format serial_format
    used_read = refl

    module _ (n : Numbers) (made : ℕ) (told-made : made ≡ number_at 4 b p) where
      -- it was sent
      pub sent_read : p + name_size ≤ length b → made ≡ 0 → (used : ℕ) → used ≡ get_or b (p + 4) 0 → take used (take (p + 4 + 1 + 64 - (p + 4 + 1)) (drop (p + 4 + 1) b)) ≡ uid_of n (name_format.read b p)
      unfolding uid_of
      sent_read h none used e =
          let long : p + 4 + 1 + 64 - (p + 4 + 1) ≡ 64 = omega arith in
          rw (name_made, ← told-made, none, e, long, used_read, text_read h)

      -- it was made
      pub made_read : (uid : List ℕ) (serial : ℕ) → MadeOf (root_of n) uid serial → (made ≡ 0 → ⊥) → made < none_left → eqb made serial ≡ same uid (uid_of n (name_format.read b p))
      unfolding uid_of
      made_read uid serial m some below = sym (rw (name_made, ← told-made, ne_eqb made 0 some) (m made (omega (arith, positive made some)) below))

    -- a film
    pub film_name : (film_format.read b p).name ≡ name_format.read b p
    unfolding film_format
    film_name = refl

    pub film_layout : (film_format.read b p).layout ≡ layout_format.read b (p + 70)
    unfolding film_format
    film_layout = let e : p + name_size + 1 ≡ p + 70 = omega arith in rw (name_size_lem, e)

    pub film_first : (film_format.read b p).first.0 ≡ number_at 4 b (p + 80)
    unfolding film_format serial_format
    film_first = let e : p + name_size + 1 + 8 + 1 + 1 ≡ p + 80 = omega arith in rw (name_size_lem, layout_size_lem, e)

  -- the session
  module _ (uid : List ℕ) where
    pub session_dead : get_or b numbers_size 0 ≡ 0 → false ≡ session_named (numbers_in b) uid (session_in b)
    unfolding session_format
    session_dead e = rw e

    pub session_live_lem : (get_or b numbers_size 0 ≡ 0 → ⊥) → same uid (uid_of (numbers_in b) (name_format.read b (numbers_size + 1))) ≡ session_named (numbers_in b) uid (session_in b)
    unfolding session_format
    session_live_lem e = rw (ne_eqb _ _ e)

  -- the films
  pub shelf_count : (shelf_in b).count ≡ get_or b shelf_place 0
  unfolding shelf_format
  shelf_count = refl

  module _ (few : (shelf_in b).count ≤ most_films) where
    pub films_counted : length (films_of (shelf_in b)) ≡ (shelf_in b).count
    unfolding films_of shelf_format
    films_counted = length-take-le _ _ (omega (arith, length_read film_format b (shelf_place + 1) most_films))

    pub film_there : (i : ℕ) (d : Film) → i < (shelf_in b).count → get_or (films_of (shelf_in b)) i d ≡ film_format.read b (193 + i * 300)
    unfolding films_of shelf_format
    film_there i d h =
        let films = read_all film_format b (shelf_place + 1) most_films in
        let inside : i < length films = omega (arith, length_read film_format b (shelf_place + 1) most_films) in
        get_or-take _ films i d h ∙ get_d_within films i d film_format.blank inside ∙ get_read film_format b (shelf_place + 1) most_films i (omega arith) ∙ rw film_size_lem
