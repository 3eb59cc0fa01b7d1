-- Laws of lists: of every element, tested or stated, of any, of no two alike, of part of a list, and of filled lists.
-- Assumes nothing.
use Prim.Native.Nat.{ℕ, zero, suc, ◌+◌, ◌-◌, ◌<◌, ◌≤◌}
use mathlib.Core.Path.{◌≡◌, refl, sym, ap, subst}
use mathlib.Core.Bool.{Bool, true, false}
use mathlib.Core.List.{List, [], ◌∷◌, ◌++◌, map}
use native.Mathlib.Omega.{arith}
use lib.Dec.{eqb}
use lib.ListN.{length, get_or, set, take, drop, replicate, length-append, length-replicate, take-append-drop}
use lib.Seq.{take-append_seam, drop-append_seam}
use Rattle.choice.specs.Pick.{pick, either, not}
use Rattle.choice.proofs.Picks.{both_true, both_holds, either_false, clash, pick_cases, not_true}
use Rattle.rules.specs.Bounds.{most_films, most_entries}
use Rattle.rules.specs.declared.Film.{Film}
use Rattle.rules.specs.declared.Entry.{Entry}
use Rattle.rules.specs.Lists.{every, any, place_of, apart, filled_to, without, from, those, up_to}
use Rattle.rules.specs.Records.{no_film, no_entry, films_of, shelved, entries_of, queued}
use Rattle.rules.specs.Sound.{all, zeros, film_blank, entry_blank}

-- Several tests.

-- each of the tests holds
abbrev pub AllHold : List Bool → Type 0
AllHold [] = Unit {0}
AllHold (test ∷ tests) = (test ≡ true) × AllHold tests

pub all_true : (tests : List Bool) → all tests ≡ true → AllHold tests
unfolding every
all_true [] e = tt
all_true (test ∷ tests) e = let t = both_true test (all tests) e in (t.0, all_true tests t.1)

pub all_holds : (tests : List Bool) → AllHold tests → all tests ≡ true
unfolding every
all_holds [] h = refl
all_holds (test ∷ tests) h = both_holds test (all tests) h.0 (all_holds tests h.1)

-- Every element.

module _ {A : Type 0} (test : A → Bool) where
  pub every_nil : every test [] ≡ true
  unfolding every
  every_nil = refl

  pub every_cons : (x : A) (xs : List A) → test x ≡ true → every test xs ≡ true → every test (x ∷ xs) ≡ true
  unfolding every
  every_cons x xs e f = both_holds (test x) (every test xs) e f

  pub every_parts : (x : A) (xs : List A) → every test (x ∷ xs) ≡ true → (test x ≡ true) × (every test xs ≡ true)
  unfolding every
  every_parts x xs e = both_true (test x) (every test xs) e

  pub every_one : (x : A) → test x ≡ true → every test (x ∷ []) ≡ true
  unfolding every
  every_one x e = rw e

  pub every_append : (xs ys : List A) → every test xs ≡ true → every test ys ≡ true → every test (xs ++ ys) ≡ true
  unfolding every
  every_append [] ys e f = f
  every_append (x ∷ xs) ys e f =
      let t = both_true (test x) (every test xs) e in
      both_holds (test x) (every test (xs ++ ys)) t.0 (every_append xs ys t.1 f)

  pub every_drop : (n : ℕ) (xs : List A) → every test xs ≡ true → every test (drop n xs) ≡ true
  unfolding every
  every_drop zero xs e = e
  every_drop (suc n) [] e = refl
  every_drop (suc n) (x ∷ xs) e = every_drop n xs (both_true (test x) (every test xs) e).1

  -- the new element is tested where the place is in the list
  pub every_set : (xs : List A) (i : ℕ) (y : A) → every test xs ≡ true → (i < length xs → test y ≡ true) → every test (set xs i y) ≡ true
  unfolding every
  every_set [] i y e f = refl
  every_set (x ∷ xs) zero y e f =
      both_holds (test y) (every test xs) (f (omega arith)) (both_true (test x) (every test xs) e).1
  every_set (x ∷ xs) (suc i) y e f =
      let t = both_true (test x) (every test xs) e in
      both_holds (test x) (every test (set xs i y)) t.0 (every_set xs i y t.1 (λ h. f (omega arith)))

  pub every_replicate : (n : ℕ) (x : A) → test x ≡ true → every test (replicate n x) ≡ true
  unfolding every
  every_replicate zero x e = refl
  every_replicate (suc n) x e = both_holds (test x) (every test (replicate n x)) e (every_replicate n x e)

  pub every_at : (xs : List A) (i : ℕ) (d : A) → every test xs ≡ true → i < length xs → test (get_or xs i d) ≡ true
  unfolding every
  every_at [] i d e h = absurd (omega arith)
  every_at (x ∷ xs) zero d e h = (both_true (test x) (every test xs) e).0
  every_at (x ∷ xs) (suc i) d e h = every_at xs i d (both_true (test x) (every test xs) e).1 (omega arith)

  pub every_map : {B : Type 0} (f : B → A) → ((x : B) → test (f x) ≡ true) → (xs : List B) → every test (map f xs) ≡ true
  unfolding every
  every_map f h [] = refl
  every_map f h (x ∷ xs) = both_holds (test (f x)) (every test (map f xs)) (h x) (every_map f h xs)

  -- a test that follows from this one
  pub every_so : (other : A → Bool) → ((x : A) → test x ≡ true → other x ≡ true) → (xs : List A) → every test xs ≡ true → every other xs ≡ true
  unfolding every
  every_so other f [] e = refl
  every_so other f (x ∷ xs) e =
      let t = both_true (test x) (every test xs) e in
      both_holds (other x) (every other xs) (f x t.0) (every_so other f xs t.1)

pub zeros_replicate : (n : ℕ) → zeros (replicate n 0) ≡ true
zeros_replicate n = every_replicate (λ (b : ℕ). eqb b 0) n 0 refl

-- A fact of each element of a list.

abbrev pub Each : {A : Type 0} → (A → Type 0) → List A → Type 0
Each P [] = Unit {0}
Each P (x ∷ xs) = P x × Each P xs

module _ {A : Type 0} (P : A → Type 0) where
  pub each_at : (xs : List A) (i : ℕ) (d : A) → Each P xs → i < length xs → P (get_or xs i d)
  each_at [] i d h k = absurd (omega arith)
  each_at (x ∷ xs) zero d h k = h.0
  each_at (x ∷ xs) (suc i) d h k = each_at xs i d h.1 (omega arith)

  -- what holds at each place
  pub each_all : (xs : List A) (d : A) → ((i : ℕ) → i < length xs → P (get_or xs i d)) → Each P xs
  each_all [] d f = tt
  each_all (x ∷ xs) d f = (f 0 (omega arith), each_all xs d (λ i h. f (suc i) (omega arith)))

  -- behind the list's end is the default
  pub each_or : (xs : List A) (i : ℕ) (d : A) → Each P xs → P d → P (get_or xs i d)
  each_or [] i d h k = k
  each_or (x ∷ xs) zero d h k = h.0
  each_or (x ∷ xs) (suc i) d h k = each_or xs i d h.1 k

  pub each_append : (xs ys : List A) → Each P xs → Each P ys → Each P (xs ++ ys)
  each_append [] ys h k = k
  each_append (x ∷ xs) ys h k = (h.0, each_append xs ys h.1 k)

  pub each_parts : (xs ys : List A) → Each P (xs ++ ys) → Each P xs × Each P ys
  each_parts [] ys h = (tt, h)
  each_parts (x ∷ xs) ys h = let t = each_parts xs ys h.1 in ((h.0, t.0), t.1)

  pub each_take : (n : ℕ) (xs : List A) → Each P xs → Each P (take n xs)
  each_take zero xs h = tt
  each_take (suc n) [] h = tt
  each_take (suc n) (x ∷ xs) h = (h.0, each_take n xs h.1)

  pub each_drop : (n : ℕ) (xs : List A) → Each P xs → Each P (drop n xs)
  each_drop zero xs h = h
  each_drop (suc n) [] h = tt
  each_drop (suc n) (x ∷ xs) h = each_drop n xs h.1

  -- of a list's front and of what is behind it
  pub each_join : (n : ℕ) (xs : List A) → Each P (take n xs) → Each P (drop n xs) → Each P xs
  each_join n xs h k = subst (Each P) (take-append-drop n xs) (each_append (take n xs) (drop n xs) h k)

  pub each_set : (xs : List A) (i : ℕ) (y : A) → Each P xs → P y → Each P (set xs i y)
  each_set [] i y h k = tt
  each_set (x ∷ xs) zero y h k = (k, h.1)
  each_set (x ∷ xs) (suc i) y h k = (h.0, each_set xs i y h.1 k)

  pub each_replicate : (n : ℕ) (x : A) → P x → Each P (replicate n x)
  each_replicate zero x h = tt
  each_replicate (suc n) x h = (h, each_replicate n x h)

  pub each_filled : (n : ℕ) (blank : A) (xs : List A) → Each P xs → P blank → Each P (filled_to n blank xs)
  each_filled n blank xs h k = each_append xs (replicate (n - length xs) blank) h (each_replicate (n - length xs) blank k)

  -- what a test tells of each element that passes it
  pub each_told : (test : A → Bool) → ((x : A) → test x ≡ true → P x) → (xs : List A) → every test xs ≡ true → Each P xs
  unfolding every
  each_told test f [] e = tt
  each_told test f (x ∷ xs) e = let t = both_true (test x) (every test xs) e in (f x t.0, each_told test f xs t.1)

  -- what a test and a fact tell together
  pub each_so : (test : A → Bool) (Q : A → Type 0) → ((x : A) → test x ≡ true → P x → Q x) → (xs : List A) → every test xs ≡ true → Each P xs → Each Q xs
  unfolding every
  each_so test Q f [] e h = tt
  each_so test Q f (x ∷ xs) e h =
      let t = both_true (test x) (every test xs) e in
      (f x t.0 h.0, each_so test Q f xs t.1 h.1)

-- Any element.

module _ {A : Type 0} (test : A → Bool) where
  place_behind : (here : Bool) (xs : List A) → (any test xs ≡ true → place_of test xs < length xs) → either here (any test xs) ≡ true → pick here 0 (suc (place_of test xs)) < suc (length xs)
  place_behind true xs f e = omega arith
  place_behind false xs f e = let h = f e in omega arith

  found_behind : (x d : A) (here : Bool) (xs : List A) → test x ≡ here → (any test xs ≡ true → test (get_or xs (place_of test xs) d) ≡ true) → either here (any test xs) ≡ true → test (get_or (x ∷ xs) (pick here 0 (suc (place_of test xs))) d) ≡ true
  found_behind x d true xs h f e = h
  found_behind x d false xs h f e = f e

  -- where any passes, the first place that does is in the list
  pub place_below : (xs : List A) → any test xs ≡ true → place_of test xs < length xs
  unfolding any place_of
  place_below [] e = absurd (clash refl e)
  place_below (x ∷ xs) e = place_behind (test x) xs (place_below xs) e

  -- and its element passes
  pub place_passes : (xs : List A) (d : A) → any test xs ≡ true → test (get_or xs (place_of test xs) d) ≡ true
  unfolding any place_of
  place_passes [] d e = absurd (clash refl e)
  place_passes (x ∷ xs) d e = found_behind x d (test x) xs refl (place_passes xs d) e

  -- where none passes, no place's element does
  pub none_at : (xs : List A) (i : ℕ) (d : A) → any test xs ≡ false → i < length xs → test (get_or xs i d) ≡ false
  unfolding any
  none_at [] i d e h = absurd (omega arith)
  none_at (x ∷ xs) zero d e h = (either_false (test x) (any test xs) e).0
  none_at (x ∷ xs) (suc i) d e h = none_at xs i d (either_false (test x) (any test xs) e).1 (omega arith)

-- Part of a list, in its order.

module _ {A : Type 0} where
  pub data Part : List A → List A → Type 0 where
    done : Part [] []
    skip : {xs : List A} {y : A} {ys : List A} → Part xs ys → Part xs (y ∷ ys)
    keep : {x : A} {xs : List A} {ys : List A} → Part xs ys → Part (x ∷ xs) (x ∷ ys)

  pub part_self : (xs : List A) → Part xs xs
  part_self [] = done
  part_self (x ∷ xs) = keep (part_self xs)

  pub part_without : (i : ℕ) (xs : List A) → Part (without i xs) xs
  part_without zero [] = done
  part_without (suc i) [] = done
  part_without zero (x ∷ xs) = skip (part_self xs)
  part_without (suc i) (x ∷ xs) = keep (part_without i xs)

  pub every_part : (t : A → Bool) {xs ys : List A} → Part xs ys → every t ys ≡ true → every t xs ≡ true
  unfolding every
  every_part t done e = refl
  every_part t (skip {y = y} {ys = ys} p) e = every_part t p (both_true (t y) (every t ys) e).1
  every_part t (keep {x = x} {xs = xs} {ys = ys} p) e =
      let b = both_true (t x) (every t ys) e in
      both_holds (t x) (every t xs) b.0 (every_part t p b.1)

  pub apart_part : (alike : A → A → Bool) {xs ys : List A} → Part xs ys → apart alike ys ≡ true → apart alike xs ≡ true
  unfolding apart
  apart_part alike done e = refl
  apart_part alike (skip {y = y} {ys = ys} p) e = apart_part alike p (both_true (every (λ z. pick (alike y z) false true) ys) (apart alike ys) e).1
  apart_part alike (keep {x = x} {xs = xs} {ys = ys} p) e =
      let b = both_true (every (λ z. pick (alike x z) false true) ys) (apart alike ys) e in
      both_holds (every (λ z. pick (alike x z) false true) xs) (apart alike xs) (every_part (λ z. pick (alike x z) false true) p b.0) (apart_part alike p b.1)

pub part_map : {A B : Type 0} (f : A → B) {xs ys : List A} → Part xs ys → Part (map f xs) (map f ys)
part_map f done = done
part_map f (skip p) = skip (part_map f p)
part_map f (keep p) = keep (part_map f p)

-- No two alike.

module _ {A : Type 0} (alike : A → A → Bool) where
  pub apart_one : (x : A) → apart alike (x ∷ []) ≡ true
  unfolding every apart
  apart_one x = refl

  pub apart_parts : (x : A) (xs : List A) → apart alike (x ∷ xs) ≡ true → (every (λ y. pick (alike x y) false true) xs ≡ true) × (apart alike xs ≡ true)
  unfolding apart
  apart_parts x xs e = both_true (every (λ y. pick (alike x y) false true) xs) (apart alike xs) e

  -- one list after another, of which no element is like one of the first
  pub apart_append : (xs ys : List A) → apart alike xs ≡ true → apart alike ys ≡ true → every (λ x. every (λ y. pick (alike x y) false true) ys) xs ≡ true → apart alike (xs ++ ys) ≡ true
  unfolding apart every
  apart_append [] ys e f g = f
  apart_append (x ∷ xs) ys e f g =
      let t = apart_parts x xs e in
      let u = both_true (every (λ y. pick (alike x y) false true) ys) (every (λ z. every (λ y. pick (alike z y) false true) ys) xs) g in
      both_holds (every (λ y. pick (alike x y) false true) (xs ++ ys)) (apart alike (xs ++ ys))
      (every_append (λ y. pick (alike x y) false true) xs ys t.0 u.0)
      (apart_append xs ys t.1 f u.1)

-- No two equal, as a fact.

abbrev pub Unlike : {A : Type 0} → A → A → Type 0
Unlike x y = x ≡ y → ⊥

abbrev pub Differ : {A : Type 0} → List A → Type 0
Differ [] = Unit {0}
Differ (x ∷ xs) = Each (Unlike x) xs × Differ xs

-- lists one after the other
abbrev pub joined : {A : Type 0} → List (List A) → List A
joined [] = []
joined (xs ∷ lists) = xs ++ joined lists

module _ {A : Type 0} where
  pub differ_append : (xs ys : List A) → Differ xs → Differ ys → Each (λ x. Each (Unlike x) ys) xs → Differ (xs ++ ys)
  differ_append [] ys h k b = k
  differ_append (x ∷ xs) ys h k b = (each_append (Unlike x) xs ys h.0 b.0, differ_append xs ys h.1 k b.1)

  -- what holds of each two places
  pub differ_all : (xs : List A) (d : A) → ((i j : ℕ) → i < j → j < length xs → get_or xs i d ≡ get_or xs j d → ⊥) → Differ xs
  differ_all [] d f = tt
  differ_all (x ∷ xs) d f = (each_all (Unlike x) xs d (λ j h. f 0 (suc j) (omega arith) (omega arith)), differ_all xs d (λ i j h k. f (suc i) (suc j) (omega arith) (omega arith)))

  differ_parts : (xs ys : List A) → Differ (xs ++ ys) → Differ xs × Differ ys × Each (λ x. Each (Unlike x) ys) xs
  differ_parts [] ys h = (tt, h, tt)
  differ_parts (x ∷ xs) ys h =
      let t = each_parts (Unlike x) xs ys h.0 in
      let r = differ_parts xs ys h.1 in
      ((t.0, r.0), r.1, (t.1, r.2))

  -- equal elements stand at one place
  pub differ_one : (xs : List A) (d : A) (i j : ℕ) → Differ xs → i < length xs → j < length xs → get_or xs i d ≡ get_or xs j d → i ≡ j
  differ_one [] d i j h a b e = absurd (omega arith)
  differ_one (x ∷ xs) d zero zero h a b e = refl
  differ_one (x ∷ xs) d zero (suc j) h a b e = absurd (each_at (Unlike x) xs j d h.0 (omega arith) e)
  differ_one (x ∷ xs) d (suc i) zero h a b e = absurd (each_at (Unlike x) xs i d h.0 (omega arith) (sym e))
  differ_one (x ∷ xs) d (suc i) (suc j) h a b e = ap suc (differ_one xs d i j h.1 (omega arith) (omega arith) e)

  each_joined : (P : A → Type 0) (lists : List (List A)) (d : A) (a p : ℕ) → Each P (joined lists) → p < length (get_or lists a []) → P (get_or (get_or lists a []) p d)
  each_joined P [] d a p h k = absurd (omega arith)
  each_joined P (xs ∷ lists) d zero p h k = each_at P xs p d (each_parts P xs (joined lists) h).0 k
  each_joined P (xs ∷ lists) d (suc a) p h k = each_joined P lists d a p (each_parts P xs (joined lists) h).1 k

  -- an element of the first list, and one of another
  first_other : (xs : List A) (lists : List (List A)) (d : A) (b p q : ℕ) → Differ (xs ++ joined lists) → p < length xs → q < length (get_or lists b []) → get_or xs p d ≡ get_or (get_or lists b []) q d → ⊥
  first_other xs lists d b p q h i j =
      each_joined (Unlike (get_or xs p d)) lists d b q (each_at (λ x. Each (Unlike x) (joined lists)) xs p d (differ_parts xs (joined lists) h).2 i) j

  -- the same of lists that are joined: at one place of one list
  pub joined_one : (lists : List (List A)) (d : A) (a b p q : ℕ) → Differ (joined lists) → p < length (get_or lists a []) → q < length (get_or lists b []) → get_or (get_or lists a []) p d ≡ get_or (get_or lists b []) q d → (a ≡ b) × (p ≡ q)
  joined_one [] d a b p q h i j e = absurd (omega arith)
  joined_one (xs ∷ lists) d zero zero p q h i j e = (refl, differ_one xs d p q (differ_parts xs (joined lists) h).0 i j e)
  joined_one (xs ∷ lists) d zero (suc b) p q h i j e = absurd (first_other xs lists d b p q h i j e)
  joined_one (xs ∷ lists) d (suc a) zero p q h i j e = absurd (first_other xs lists d a q p h j i (sym e))
  joined_one (xs ∷ lists) d (suc a) (suc b) p q h i j e =
      let r = joined_one lists d a b p q (differ_parts xs (joined lists) h).1 i j e in
      (ap suc r.0, r.1)

-- Lists mapped, and counted on from a number.

pub map_append : {A B : Type 0} (f : A → B) (xs ys : List A) → map f (xs ++ ys) ≡ map f xs ++ map f ys
map_append f [] ys = refl
map_append f (x ∷ xs) ys = rw (map_append f xs ys)

pub map_at : {A B : Type 0} (f : A → B) (xs : List A) (i : ℕ) (d : A) (e : B) → i < length xs → get_or (map f xs) i e ≡ f (get_or xs i d)
map_at f [] i d e h = absurd (omega arith)
map_at f (x ∷ xs) zero d e h = refl
map_at f (x ∷ xs) (suc i) d e h = map_at f xs i d e (omega arith)

pub from_length : (n count : ℕ) → length (from n count) ≡ count
unfolding from
from_length n zero = refl
from_length n (suc count) = ap suc (from_length (n + 1) count)

-- Filled lists.

pub filled_length : {A : Type 0} (n : ℕ) (blank : A) (xs : List A) → length xs ≤ n → length (filled_to n blank xs) ≡ n
filled_length n blank xs h = simp (length-append, length-replicate) (omega arith)

module _ {A : Type 0} (m : ℕ) (blank : A) (xs : List A) where
  pub take_filled : (n : ℕ) → n ≡ length xs → take n (filled_to m blank xs) ≡ xs
  take_filled n e = rw e (take-append_seam xs (replicate (m - length xs) blank))

  pub drop_filled : (n : ℕ) → n ≡ length xs → drop n (filled_to m blank xs) ≡ replicate (m - length xs) blank
  drop_filled n e = rw e (drop-append_seam xs (replicate (m - length xs) blank))

  -- what is behind is blank
  pub behind_filled : (test : A → Bool) → test blank ≡ true → every test (drop (length xs) (filled_to m blank xs)) ≡ true
  behind_filled test e = rw (drop_filled (length xs) refl) (every_replicate test (m - length xs) blank e)

pub films_shelved : (films : List Film) → films_of (shelved films) ≡ films
unfolding films_of shelved
films_shelved films = take_filled most_films no_film films (length films) refl

pub entries_queued : (entries : List Entry) → entries_of (queued entries) ≡ entries
unfolding entries_of queued
entries_queued entries = take_filled most_entries no_entry entries (length entries) refl

film_blank_lem : film_blank no_film ≡ true
unfolding every
film_blank_lem = refl

entry_blank_lem : entry_blank no_entry ≡ true
unfolding every
entry_blank_lem = refl

-- behind the films and the entries nothing is
pub films_behind : (films : List Film) → every film_blank (drop (length films) (filled_to most_films no_film films)) ≡ true
films_behind films = behind_filled most_films no_film films film_blank film_blank_lem

pub entries_behind : (entries : List Entry) → every entry_blank (drop (length entries) (filled_to most_entries no_entry entries)) ≡ true
entries_behind entries = behind_filled most_entries no_entry entries entry_blank entry_blank_lem

-- Those that pass a test.

module _ {A : Type 0} (test : A → Bool) where
  pub those_part : (xs : List A) → Part (those test xs) xs
  unfolding those
  those_part [] = done
  those_part (x ∷ xs) = pick_cases (λ (ys : List A). Part ys (x ∷ xs)) (test x) (x ∷ those test xs) (those test xs) (λ e. keep (those_part xs)) (λ e. skip (those_part xs))

  pub those_all : (xs : List A) → every test xs ≡ true → those test xs ≡ xs
  unfolding those every
  those_all [] e = refl
  those_all (x ∷ xs) e = let b = both_true (test x) (every test xs) e in rw (b.0, those_all xs b.1)

  pub those_none : (xs : List A) → every (λ x. not (test x)) xs ≡ true → those test xs ≡ []
  unfolding those every
  those_none [] e = refl
  those_none (x ∷ xs) e = let b = both_true (not (test x)) (every (λ y. not (test y)) xs) e in rw (not_true (test x) b.0, those_none xs b.1)

pub part_length : {A : Type 0} {xs ys : List A} → Part xs ys → length xs ≤ length ys
part_length done = omega arith
part_length (skip p) = let h = part_length p in omega arith
part_length (keep p) = let h = part_length p in omega arith

pub each_part : {A : Type 0} (P : A → Type 0) {xs ys : List A} → Part xs ys → Each P ys → Each P xs
each_part P done h = h
each_part P (skip p) h = each_part P p h.1
each_part P (keep p) h = (h.0, each_part P p h.1)

-- Places, read one by one.

pub places_read : {A : Type 0} (n : ℕ) (xs : List A) (d : A) → length xs ≡ n → up_to n (λ i. get_or xs i d) ≡ xs
places_read zero [] d e = refl
places_read zero (x ∷ xs) d e = absurd (omega arith)
places_read (suc n) [] d e = absurd (omega arith)
places_read (suc n) (x ∷ xs) d e = rw (places_read n xs d (omega arith))

-- behind the same front
pub part_front : {A : Type 0} (front : List A) {xs ys : List A} → Part xs ys → Part (front ++ xs) (front ++ ys)
part_front [] p = p
part_front (x ∷ front) p = keep (part_front front p)
