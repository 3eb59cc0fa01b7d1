-- Every box has a live parent: its film is on the shelf, the session is live, and the UID of each names it.
-- Assumes nothing.
use Prim.Native.Nat.{ℕ, zero, suc, ◌+◌, ◌<◌}
use mathlib.Core.Path.{◌≡◌, refl, sym, ap, ◌∙◌}
use mathlib.Core.Bool.{Bool, true, false}
use mathlib.Core.List.{List, []}
use native.Mathlib.Omega.{arith}
use lib.ListN.{length, get_or}
use Rattle.choice.specs.Pick.{both}
use Rattle.choice.proofs.Picks.{pick_cases, both_true, both_second, clash}
use Rattle.octets.specs.Octets.{same}
use Rattle.octets.proofs.Same.{same_equal, same_self}
use Rattle.uids.specs.Uids.{made}
use Rattle.strike.specs.Service.{Call}
use Rattle.strike.specs.Machine.{Records}
use Rattle.strike.specs.Messages.{after}
use Rattle.rules.specs.declared.Core.{Core}
use Rattle.rules.specs.Lists.{any, place_of}
use Rattle.rules.specs.declared.Instance.{Instance}
use Rattle.rules.specs.declared.Instance.TheVariants.{Nobody, TheSession, TheFilm, TheBox}
use Rattle.rules.specs.Records.{root_of, uid_of, box_count, films_of, no_film, is_live, box_uids, film_named, box_named, box_of, named, sessions_of, the_session}
use Rattle.rules.specs.Effects.{film_at}
use Rattle.rules.specs.Checks.{is_nobody}
use Rattle.rules.specs.Sound.{core_sound, has_session}
use Rattle.rules.specs.Calls.{handed, printing}
use Rattle.promises.proofs.ListLaws.{place_below, place_passes, none_at, joined_one, map_at, every_at}
use Rattle.promises.proofs.Instances.{named_film, named_box, box_uids_length, box_uid_at, nobody_named}
use Rattle.promises.proofs.Kept.{run_keeps}
use Rattle.promises.proofs.LiveUids.{film_uids, uid_lists, uids_differ}
use Rattle.promises.proofs.Places.{film_live_lem, films_owned}

-- the session is live, and its UID names it
pub record LiveSession (k : Core) : Type 0 where
  pub live : is_live (the_session k) ≡ true
  pub names : named k (uid_of k.numbers (the_session k).name) ≡ TheSession

-- a film is on the shelf, its UID names it, and its session is live
pub record LiveFilm (k : Core) (i : ℕ) : Type 0 where
  pub there : i < length (films_of k.shelf)
  pub names : named k (uid_of k.numbers (film_at k i).name) ≡ TheFilm i
  pub session : LiveSession k

-- a box is one of its film's, its UID names it, and its film is live
pub record LiveBox (k : Core) (i j : ℕ) : Type 0 where
  pub there : j < box_count (film_at k i).layout
  pub names : named k (made (root_of k.numbers) ((film_at k i).first.0 + j)) ≡ TheBox i j
  pub film : LiveFilm k i

-- whatever box or film a UID names, and every box and film there is, is live with all above it
pub record Parented (k : Core) : Type 0 where
  pub box_named_lem : (uid : List ℕ) (i j : ℕ) → named k uid ≡ TheBox i j → LiveBox k i j
  pub film_named_lem : (uid : List ℕ) (i : ℕ) → named k uid ≡ TheFilm i → LiveFilm k i
  pub every_box : (i j : ℕ) → i < length (films_of k.shelf) → j < box_count (film_at k i).layout → LiveBox k i j
  pub every_film : (i : ℕ) → i < length (films_of k.shelf) → LiveFilm k i

-- Where an instance and its UID stand among those that are live.

abbrev instance_at : ℕ → ℕ → Instance
instance_at zero place = TheSession
instance_at (suc i) zero = TheFilm i
instance_at (suc i) (suc j) = TheBox i j

record Stands (k : Core) (uid : List ℕ) (x : Instance) : Type 0 where
  list : ℕ
  place : ℕ
  inside : place < length (get_or (uid_lists k) list [])
  holds : get_or (get_or (uid_lists k) list []) place [] ≡ uid
  is : instance_at list place ≡ x

module _ (k : Core) (uid : List ℕ) where
  session_stands : is_live (the_session k) ≡ true → uid ≡ uid_of k.numbers (the_session k).name → Stands k uid TheSession
  session_stands live e = record { list = 0; place = 0; inside = rw live (omega arith); holds = rw live (sym e); is = refl }

  film_stands : (i : ℕ) → i < length (films_of k.shelf) → uid ≡ uid_of k.numbers (film_at k i).name → Stands k uid (TheFilm i)
  film_stands i h e =
      let l = map_at (film_uids k.numbers) (films_of k.shelf) i no_film [] h in
      record { list = suc i; place = 0; inside = rw l (omega arith); holds = rw l (sym e); is = refl }

  box_stands : (i j : ℕ) → i < length (films_of k.shelf) → j < box_count (film_at k i).layout → uid ≡ get_or (box_uids k.numbers (film_at k i)) j [] → Stands k uid (TheBox i j)
  box_stands i j h g e =
      let l = map_at (film_uids k.numbers) (films_of k.shelf) i no_film [] h in
      record { list = suc i; place = suc j; inside = rw l (omega (arith, box_uids_length k.numbers (film_at k i))); holds = rw l (sym e); is = refl }

  -- whom a UID names bears it
  named_stands : is_nobody (named k uid) ≡ false → Stands k uid (named k uid)
  unfolding named
  named_stands =
      let films = films_of k.shelf in
      let n = k.numbers in
      let i = place_of (box_named n uid) films in
      let P : Instance → Type 0 = λ x. is_nobody x ≡ false → Stands k uid x in
      pick_cases P (both (is_live (the_session k)) (same uid (uid_of n (the_session k).name))) TheSession _
      (λ e s. let b = both_true (is_live (the_session k)) (same uid (uid_of n (the_session k).name)) e in session_stands b.0 (same_equal uid _ b.1))
      (λ _.
      pick_cases P (any (film_named n uid) films) (TheFilm (place_of (film_named n uid) films)) _
      (λ e s. film_stands (place_of (film_named n uid) films) (place_below (film_named n uid) films e) (same_equal uid _ (place_passes (film_named n uid) films no_film e)))
      (λ _.
      pick_cases P (any (box_named n uid) films) (box_of n uid films i) Nobody
      (λ e s.
      let b = place_passes (box_named n uid) films no_film e in
      let uids = box_uids n (film_at k i) in
      box_stands i (place_of (same uid) uids) (place_below (box_named n uid) films e) (let h = place_below (same uid) uids b in omega (arith, box_uids_length n (film_at k i))) (same_equal uid _ (place_passes (same uid) uids [] b)))
      (λ _ s. absurd (clash s refl))))

module _ (k : Core) (sound : core_sound k ≡ true) where
  -- one UID is borne by one instance
  one_bears : (uid : List ℕ) (x y : Instance) → Stands k uid x → Stands k uid y → x ≡ y
  one_bears uid x y a b =
      let r = joined_one (uid_lists k) [] a.list b.list a.place b.place (uids_differ k sound) a.inside b.inside (a.holds ∙ sym b.holds) in
      sym a.is ∙ rw (r.0, r.1) b.is

  -- so where a UID names anybody, it names whoever bears it
  bearer_named : (uid : List ℕ) (x : Instance) → Stands k uid x → (is_nobody (named k uid) ≡ true → ⊥) → named k uid ≡ x
  bearer_named uid x s f = by (is_nobody (named k uid)) refl
    where
      by : (t : Bool) → is_nobody (named k uid) ≡ t → named k uid ≡ x
      by true e = absurd (f e)
      by false e = one_bears uid (named k uid) x (named_stands k uid e) s

  pub session_lives : is_live (the_session k) ≡ true → LiveSession k
  session_lives live =
      let uid = uid_of k.numbers (the_session k).name in
      record {
        live = live;
        names = bearer_named uid TheSession (session_stands k uid live refl) (λ e. clash (both_second (is_live (the_session k)) (same uid uid) (nobody_named k uid e).0 live) (same_self uid));
      }

  -- there are films only under a live session
  filmed_live : (i : ℕ) → i < length (films_of k.shelf) → is_live (the_session k) ≡ true
  filmed_live i h = film_live_lem k (film_at k i) (every_at (has_session (sessions_of k)) (films_of k.shelf) i no_film (films_owned k sound) h)

  pub film_lives : (i : ℕ) → i < length (films_of k.shelf) → LiveFilm k i
  film_lives i h =
      let uid = uid_of k.numbers (film_at k i).name in
      record {
        there = h;
        names = bearer_named uid (TheFilm i) (film_stands k uid i h refl) (λ e. clash (none_at (film_named k.numbers uid) (films_of k.shelf) i no_film (nobody_named k uid e).1 h) (same_self uid));
        session = session_lives (filmed_live i h);
      }

  pub box_lives : (i j : ℕ) → i < length (films_of k.shelf) → j < box_count (film_at k i).layout → LiveBox k i j
  box_lives i j h g =
      let uids = box_uids k.numbers (film_at k i) in
      let uid = get_or uids j [] in
      let l : j < length uids = omega (arith, box_uids_length k.numbers (film_at k i)) in
      record {
        there = g;
        names =
            ap (named k) (sym (box_uid_at k.numbers (film_at k i) j g))
            ∙ bearer_named uid (TheBox i j) (box_stands k uid i j h g refl)
            (λ e. clash (none_at (same uid) uids j [] (none_at (box_named k.numbers uid) (films_of k.shelf) i no_film (nobody_named k uid e).2 h) l) (same_self uid));
        film = film_lives i h;
      }

-- In records that keep their rules every box has a live parent.
pub parented : (k : Core) → core_sound k ≡ true → Parented k
parented k sound = record {
  box_named_lem = λ uid i j e. let t = named_box k uid i j e in box_lives k sound i j t.0 t.1;
  film_named_lem = λ uid i e. film_lives k sound i (named_film k uid i e);
  every_box = box_lives k sound;
  every_film = film_lives k sound;
}

-- And so it has after any run of calls.
pub parented_always : (s : Records Core) (calls : List (Call handed)) → core_sound s.core ≡ true → Parented (after printing s calls).core
parented_always s calls e = parented (after printing s calls).core (run_keeps s calls e)
