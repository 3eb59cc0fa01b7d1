-- Sessions by place, and the films of each. While there is one place, all films are of the session there.
-- Assumes nothing.
use Prim.Native.Nat.{ℕ, zero, suc, ◌<◌}
use mathlib.Core.Path.{◌≡◌, sym, ap, ◌∙◌}
use mathlib.Core.Bool.{true, false≢true}
use mathlib.Core.List.{List, [], ◌∷◌}
use native.Mathlib.Omega.{arith}
use lib.ListN.{length, get_or}
use borrow.Author.Tests.{eq-eqb}
use Rattle.choice.specs.Pick.{not}
use Rattle.rules.specs.declared.Session.{Session}
use Rattle.rules.specs.declared.Film.{Film}
use Rattle.rules.specs.declared.Core.{Core}
use Rattle.rules.specs.Lists.{every, those}
use Rattle.rules.specs.Records.{films_of, no_session, is_live, sessions_of, the_session, under, films_under}
use Rattle.rules.specs.Sound.{has_session, core_sound}
use Rattle.promises.proofs.ListLaws.{every_so, those_all, those_none}
use Rattle.promises.proofs.Facts.{core_facts, shelf_facts}

-- a session that is live has a place
pub place_there : (sessions : List Session) (i : ℕ) → is_live (get_or sessions i no_session) ≡ true → i < length sessions
place_there [] i e = absurd (false≢true e)
place_there (s ∷ sessions) zero e = omega arith
place_there (s ∷ sessions) (suc i) e = let h = place_there sessions i e in omega arith

module _ (k : Core) where
  -- so a film is of the only one
  pub only_place : (f : Film) → has_session (sessions_of k) f ≡ true → f.session ≡ 0
  only_place f e = let h = place_there (sessions_of k) f.session e in omega arith

  pub film_live_lem : (f : Film) → has_session (sessions_of k) f ≡ true → is_live (the_session k) ≡ true
  film_live_lem f e = ap (λ i. is_live (get_or (sessions_of k) i no_session)) (sym (only_place f e)) ∙ e

  module _ (sound : core_sound k ≡ true) where
    pub films_owned : every (has_session (sessions_of k)) (films_of k.shelf) ≡ true
    films_owned = (shelf_facts k.numbers (sessions_of k) k.shelf (core_facts k sound).shelf).owned

    films_here : every (under 0) (films_of k.shelf) ≡ true
    films_here = every_so (has_session (sessions_of k)) (under 0) (λ f e. eq-eqb f.session 0 (only_place f e)) (films_of k.shelf) films_owned

    -- its films are all of them
    pub films_under_lem : films_under 0 k.shelf ≡ films_of k.shelf
    unfolding films_under
    films_under_lem = those_all (under 0) (films_of k.shelf) films_here

    -- and beside them there are none
    pub films_beside : those (λ f. not (under 0 f)) (films_of k.shelf) ≡ []
    films_beside =
        those_none (λ f. not (under 0 f)) (films_of k.shelf)
        (every_so (under 0) (λ f. not (not (under 0 f))) (λ f e. rw e) (films_of k.shelf) films_here)
