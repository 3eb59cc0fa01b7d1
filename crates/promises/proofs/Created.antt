-- What a create tells names what it created: the instance of its response the session or the film, and each UID of a film's data set its box.
-- Assumes nothing.
use Prim.Native.Nat.{ℕ, ◌+◌, ◌<◌}
use mathlib.Core.Path.{◌≡◌, refl, ap, ◌∙◌, subst}
use mathlib.Core.Bool.{true}
use mathlib.Core.List.{List, [], ◌∷◌, ◌++◌}
use native.Mathlib.Omega.{arith}
use lib.ListN.{length, get_or, length-append}
use lib.Seq.{get_or-append_seam}
use Rattle.choice.proofs.Picks.{Kept}
use Rattle.uids.specs.Uids.{made}
use Rattle.headers.specs.declared.Part.{Part}
use Rattle.rules.specs.declared.Film.{Film}
use Rattle.rules.specs.declared.Core.{Core}
use Rattle.rules.specs.declared.Instance.TheVariants.{TheSession, TheFilm, TheBox}
use Rattle.rules.specs.Records.{root_of, uid_of, box_count, films_of, no_film, box_uids, named}
use Rattle.rules.specs.Attributes.{Listing, session_with, film_with}
use Rattle.rules.specs.Effects.{new_film, session_created, film_created, film_at}
use Rattle.rules.specs.Checks.{create_rules, new_session_rules, new_film_rules, sent_uid, new_uid}
use Rattle.rules.specs.Sound.{core_sound}
use Rattle.promises.proofs.ListLaws.{films_shelved}
use Rattle.promises.proofs.Instances.{box_uid_at}
use Rattle.promises.proofs.NewSession.{session_created_sound}
use Rattle.promises.proofs.NewFilm.{film_create_sound}
use Rattle.promises.proofs.Parents.{session_lives, film_lives, box_lives}

module _ (k : Core) (sent : List ℕ) (l : Listing) where
  -- a film that is created stands behind those that were there
  films_after : films_of (film_created k sent l).shelf ≡ films_of k.shelf ++ (new_film k sent l ∷ [])
  unfolding film_created
  films_after = films_shelved (films_of k.shelf ++ (new_film k sent l ∷ []))

  place_after : length (films_of k.shelf) < length (films_of (film_created k sent l).shelf)
  place_after = rw (films_after, length-append (films_of k.shelf) (new_film k sent l ∷ [])) (omega arith)

  film_after_lem : film_at (film_created k sent l) (length (films_of k.shelf)) ≡ new_film k sent l
  film_after_lem = rw films_after (get_or-append_seam (films_of k.shelf) (new_film k sent l) [] no_film)

module _ (k : Core) (c : List ℕ) (sent : Part) (l : Listing) (sound : core_sound k ≡ true) (allowed : Kept (create_rules k c sent)) where
  -- The instance that a created session's response tells names the session.
  pub created_session_named : Kept (new_session_rules k (sent_uid c sent) l) → named (session_created k (sent_uid c sent) l) (new_uid k (sent_uid c sent)) ≡ TheSession
  unfolding session_created session_with uid_of root_of
  created_session_named h = (session_lives (session_created k (sent_uid c sent) l) (session_created_sound k c sent l sound allowed h) refl).names

  module _ (h : Kept (new_film_rules k (sent_uid c sent) l)) where
    -- The instance that a created film's response tells names the film.
    pub created_film_named : named (film_created k (sent_uid c sent) l) (new_uid k (sent_uid c sent)) ≡ TheFilm (length (films_of k.shelf))
    unfolding film_created new_film film_with uid_of root_of
    created_film_named =
        let after = film_created k (sent_uid c sent) l in
        let i = length (films_of k.shelf) in
        subst (λ (f : Film). named after (uid_of after.numbers f.name) ≡ TheFilm i) (film_after_lem k (sent_uid c sent) l)
        (film_lives after (film_create_sound k c sent l sound allowed h) i (place_after k (sent_uid c sent) l)).names

    -- The j-th UID of a created film's data set names its j-th box.
    pub created_box_named : (j : ℕ) → j < box_count (new_film k (sent_uid c sent) l).layout → named (film_created k (sent_uid c sent) l) (get_or (box_uids k.numbers (new_film k (sent_uid c sent) l)) j []) ≡ TheBox (length (films_of k.shelf)) j
    unfolding film_created root_of
    created_box_named j g =
        let after = film_created k (sent_uid c sent) l in
        let new = new_film k (sent_uid c sent) l in
        let i = length (films_of k.shelf) in
        ap (named after) (box_uid_at k.numbers new j g)
        ∙ subst (λ (f : Film). j < box_count f.layout → named after (made (root_of after.numbers) (f.first.0 + j)) ≡ TheBox i j) (film_after_lem k (sent_uid c sent) l)
        (λ b. (box_lives after (film_create_sound k c sent l sound allowed h) i j (place_after k (sent_uid c sent) l) b).names) g
