-- What a UID names is there, and what it means that it names nobody.
-- Assumes nothing.
use Prim.Native.Nat.{ℕ, zero, suc, ◌+◌, ◌<◌}
use mathlib.Core.Path.{◌≡◌, refl, ap, ◌∙◌, subst}
use mathlib.Core.Bool.{Bool, true, false}
use mathlib.Core.List.{List, [], map}
use native.Mathlib.Omega.{arith}
use lib.ListN.{length, get_or, length-map}
use Rattle.choice.specs.Pick.{pick, both}
use Rattle.choice.proofs.Picks.{pick_cases, both_true, clash}
use Rattle.octets.specs.Octets.{same}
use Rattle.uids.specs.Uids.{made}
use Rattle.rules.specs.declared.Film.{Film}
use Rattle.rules.specs.declared.Numbers.{Numbers}
use Rattle.rules.specs.declared.Core.{Core}
use Rattle.rules.specs.Lists.{any, place_of, from}
use Rattle.rules.specs.declared.Instance.{Instance}
use Rattle.rules.specs.declared.Instance.TheVariants.{Nobody, TheSession, TheFilm, TheBox}
use Rattle.rules.specs.Records.{root_of, uid_of, is_live, box_count, films_of, no_film, box_uids, film_named, box_named, box_of, named, the_session}
use Rattle.rules.specs.Effects.{film_at}
use Rattle.rules.specs.Checks.{is_nobody}
use Rattle.promises.proofs.ListLaws.{place_below, place_passes, from_length}

-- an instance is there: the session is live, the film and the box have their places
abbrev pub There : Core → Instance → Type 0
There k Nobody = Unit {0}
There k TheSession = is_live (the_session k) ≡ true
There k (TheFilm i) = i < length (films_of k.shelf)
There k (TheBox i j) = (i < length (films_of k.shelf)) × (j < box_count (film_at k i).layout)

-- a film has as many UIDs of boxes as it has boxes
pub box_uids_length : (n : Numbers) (f : Film) → length (box_uids n f) ≡ box_count f.layout
unfolding box_uids
box_uids_length n f = length-map (from f.first.0 (box_count f.layout)) (made (root_of n)) ∙ from_length f.first.0 (box_count f.layout)

made_at : (root : List ℕ) (n count i : ℕ) → i < count → get_or (map (made root) (from n count)) i [] ≡ made root (n + i)
unfolding from
made_at root n zero i h = absurd (omega arith)
made_at root n (suc count) zero h = ap (made root) (omega arith)
made_at root n (suc count) (suc i) h = let e : n + 1 + i ≡ n + suc i = omega arith in made_at root (n + 1) count i (omega arith) ∙ ap (made root) e

-- each is made of the box's serial
pub box_uid_at : (n : Numbers) (f : Film) (i : ℕ) → i < box_count f.layout → get_or (box_uids n f) i [] ≡ made (root_of n) (f.first.0 + i)
unfolding box_uids
box_uid_at n f i h = made_at (root_of n) f.first.0 (box_count f.layout) i h

box_there : (n : Numbers) (uid : List ℕ) (f : Film) → box_named n uid f ≡ true → place_of (same uid) (box_uids n f) < box_count f.layout
box_there n uid f e =
    let h = place_below (same uid) (box_uids n f) e in
    let g = box_uids_length n f in
    omega arith

module _ (k : Core) (uid : List ℕ) where
  pub named_there : There k (named k uid)
  unfolding named
  named_there =
      let films = films_of k.shelf in
      let n = k.numbers in
      let i = place_of (box_named n uid) films in
      pick_cases (There k) (both (is_live (the_session k)) (same uid (uid_of n (the_session k).name))) TheSession _
      (λ e. (both_true (is_live (the_session k)) (same uid (uid_of n (the_session k).name)) e).0)
      (λ a.
      pick_cases (There k) (any (film_named n uid) films) (TheFilm (place_of (film_named n uid) films)) _
      (λ e. place_below (film_named n uid) films e)
      (λ b.
      pick_cases (There k) (any (box_named n uid) films) (box_of n uid films i) Nobody
      (λ e. (place_below (box_named n uid) films e, box_there n uid (get_or films i no_film) (place_passes (box_named n uid) films no_film e)))
      (λ c. tt)))

  pub named_session : named k uid ≡ TheSession → is_live (the_session k) ≡ true
  named_session e = subst (There k) e named_there

  pub named_film : (i : ℕ) → named k uid ≡ TheFilm i → i < length (films_of k.shelf)
  named_film i e = subst (There k) e named_there

  pub named_box : (i j : ℕ) → named k uid ≡ TheBox i j → (i < length (films_of k.shelf)) × (j < box_count (film_at k i).layout)
  named_box i j e = subst (There k) e named_there

-- A UID that names nobody.

nobody_picked : (s f b : Bool) (p x y : ℕ) → is_nobody (pick s TheSession (pick f (TheFilm p) (pick b (TheBox x y) Nobody))) ≡ true → (s ≡ false) × (f ≡ false) × (b ≡ false)
nobody_picked true f b p x y e = absurd (clash refl e)
nobody_picked false true b p x y e = absurd (clash refl e)
nobody_picked false false true p x y e = absurd (clash refl e)
nobody_picked false false false p x y e = (refl, refl, refl)

pub nobody_named : (k : Core) (uid : List ℕ) → is_nobody (named k uid) ≡ true
    → (both (is_live (the_session k)) (same uid (uid_of k.numbers (the_session k).name)) ≡ false)
    × (any (film_named k.numbers uid) (films_of k.shelf) ≡ false)
    × (any (box_named k.numbers uid) (films_of k.shelf) ≡ false)
unfolding named
nobody_named k uid e = nobody_picked (both (is_live (the_session k)) (same uid (uid_of k.numbers (the_session k).name))) (any (film_named k.numbers uid) (films_of k.shelf)) (any (box_named k.numbers uid) (films_of k.shelf)) _ _ _ e
