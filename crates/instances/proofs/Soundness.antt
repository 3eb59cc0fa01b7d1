-- What sound records say of films and their serials.
-- Assumes nothing.
use Prim.Native.Nat.{ℕ, zero, suc, ◌+◌, ◌≤◌, ◌<◌}
use mathlib.Core.Path.{◌≡◌}
use mathlib.Core.Bool.{Bool, true}
use mathlib.Core.List.{List, [], ◌∷◌}
use native.Mathlib.Omega.{arith}
use lib.Dec.{leb}
use lib.ListN.{length, get_or}
use borrow.Author.Tests.{leb-true}
use Rattle.choice.proofs.Picks.{both_true}
use Rattle.rules.specs.declared.Film.{Film}
use Rattle.rules.specs.declared.Numbers.{Numbers}
use Rattle.rules.specs.declared.Core.{Core}
use Rattle.rules.specs.Bounds.{most_films, none_left}
use Rattle.rules.specs.Lists.{every}
use Rattle.rules.specs.Records.{box_count, films_of, sessions_of}
use Rattle.rules.specs.Sound.{all, numbers_sound, film_sound, shelf_sound, core_sound}
use Rattle.instances.specs.There.{SerialsFit, AllFit}

-- each of the tests holds
abbrev AllHold : List Bool → Type 0
AllHold [] = Unit {0}
AllHold (test ∷ tests) = (test ≡ true) × AllHold tests

all_true : (tests : List Bool) → all tests ≡ true → AllHold tests
unfolding every
all_true [] e = tt
all_true (test ∷ tests) e = let t = both_true test (all tests) e in (t.0, all_true tests t.1)

every_at : {A : Type 0} (test : A → Bool) (xs : List A) (i : ℕ) (d : A) → every test xs ≡ true → i < length xs → test (get_or xs i d) ≡ true
unfolding every
every_at test [] i d e h = absurd (omega arith)
every_at test (x ∷ xs) zero d e h = (both_true (test x) (every test xs) e).0
every_at test (x ∷ xs) (suc i) d e h = every_at test xs i d (both_true (test x) (every test xs) e).1 (omega arith)

serial_left : (n : Numbers) → numbers_sound n ≡ true → n.serial ≤ none_left
unfolding numbers_sound
serial_left n e = let t = all_true _ e in leb-true n.serial none_left (both_true (leb 1 n.serial) (leb n.serial none_left) t.1.1.1.0).1

film_fits : (n : Numbers) (f : Film) → n.serial ≤ none_left → film_sound n f ≡ true → SerialsFit f
unfolding film_sound
film_fits n f h e =
    let t = all_true _ e in
    let l = leb-true (f.first.0 + box_count f.layout) n.serial t.1.1.1.1.1.0 in
    let p = leb-true 1 f.first.0 t.1.1.1.1.0 in
    (omega arith, omega arith)

module _ (k : Core) (e : core_sound k ≡ true) where
  core_parts : (numbers_sound k.numbers ≡ true) × (shelf_sound k.numbers (sessions_of k) k.shelf ≡ true)
  unfolding core_sound
  core_parts = let t = all_true _ e in (t.0, t.1.1.0)

  pub films_few : k.shelf.count ≤ 8
  unfolding shelf_sound
  films_few = let t = all_true _ core_parts.1 in leb-true k.shelf.count most_films t.0

  pub films_fit : AllFit (films_of k.shelf)
  unfolding shelf_sound
  films_fit i d h =
      let t = all_true _ core_parts.1 in
      film_fits k.numbers (get_or (films_of k.shelf) i d) (serial_left k.numbers core_parts.0) (every_at (film_sound k.numbers) (films_of k.shelf) i d t.1.1.0 h)
