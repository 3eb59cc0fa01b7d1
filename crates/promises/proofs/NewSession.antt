-- A session created keeps the rules of the records.
-- Assumes nothing.
use Prim.Native.Nat.{ℕ, zero, suc}
use mathlib.Core.Path.{◌≡◌, refl}
use mathlib.Core.Bool.{Bool, true, false, false≢true}
use mathlib.Core.List.{List, [], ◌∷◌}
use native.Mathlib.Omega.{arith}
use lib.ListN.{get_or}
use Rattle.choice.specs.Pick.{both}
use Rattle.choice.proofs.Picks.{Kept, clash}
use Rattle.headers.specs.declared.Part.{Part}
use Rattle.rules.specs.declared.Name.{Name}
use Rattle.rules.specs.declared.Film.{Film}
use Rattle.rules.specs.declared.Session.{Session}
use Rattle.rules.specs.declared.Shelf.{Shelf}
use Rattle.rules.specs.declared.Numbers.{Numbers}
use Rattle.rules.specs.declared.Core.{Core}
use Rattle.rules.specs.Lists.{every, apart}
use Rattle.rules.specs.Records.{films_of, is_live, new_session, serials_used, the_session, no_session}
use Rattle.rules.specs.Attributes.{Listing, session_with}
use Rattle.rules.specs.Effects.{own_serials, name_from, renamed, session_created}
use Rattle.rules.specs.Checks.{create_rules, new_session_rules, sent_uid}
use Rattle.rules.specs.Sound.{film_sound, shelf_sound, serials_of, uids_apart, core_sound, session_place_sound, has_session}
use Rattle.promises.proofs.ListLaws.{every_nil, zeros_replicate, every_one, every_parts}
use Rattle.promises.proofs.Facts.{core_facts, core_sound_lem, counted, shelf_facts, shelf_sound_lem, ValueFacts, session_sound_lem}
use Rattle.promises.proofs.Later.{queue_later, serials_sound, serials_later}
use Rattle.promises.proofs.NewNames.{sendable, name_from_sound}
use Rattle.promises.proofs.Sessions.{values_with, place_live}
use Rattle.rules.proofs.Book.{the_book}

-- The session.

new_values : ValueFacts new_session
unfolding the_book
new_values = record {
  copies = refl;
  priority = refl;
  medium = refl;
  destination = refl;
  label = record { short = refl; allowed = refl; bare = refl; behind = zeros_replicate 64 };
}

renamed_values : (name : Name) (s : Session) → ValueFacts s → ValueFacts (renamed name s)
renamed_values name s f = record { copies = f.copies; priority = f.priority; medium = f.medium; destination = f.destination; label = f.label }

-- Without a session there are no films.

none_owned : (s : Session) (films : List Film) → is_live s ≡ false → every (has_session (s ∷ [])) films ≡ true → films ≡ []
none_owned s [] gone e = refl
none_owned s (f ∷ films) gone e = absurd (clash gone (here f.session (every_parts (has_session (s ∷ [])) f films e).0))
  where
    here : (i : ℕ) → is_live (get_or (s ∷ []) i no_session) ≡ true → is_live s ≡ true
    here zero h = h
    here (suc i) h = absurd (false≢true h)

no_films_held : (n : Numbers) (s : Session) (shelf : Shelf) → is_live s ≡ false → shelf_sound n (s ∷ []) shelf ≡ true → films_of shelf ≡ []
no_films_held n s shelf e f = none_owned s (films_of shelf) e (shelf_facts n (s ∷ []) shelf f).owned

alone_apart : (s : Session) (films : List Film) → films ≡ [] → uids_apart (s ∷ []) films ≡ true
unfolding uids_apart apart every serials_of
alone_apart s films e = rw e refl

shelf_empty : (n m : Numbers) (s t : Session) (shelf : Shelf) → is_live s ≡ false → shelf_sound n (s ∷ []) shelf ≡ true → shelf_sound m (t ∷ []) shelf ≡ true
shelf_empty n m s t shelf e f =
    let none = no_films_held n s shelf e f in
    let old = shelf_facts n (s ∷ []) shelf f in
    shelf_sound_lem m (t ∷ []) shelf record {
      count = old.count;
      owned = rw none (every_nil (has_session (t ∷ [])));
      films = rw none (every_nil (film_sound m));
      behind = old.behind;
    }

-- no place is left where the only one is live
place_left : (live : Bool) → both live true ≡ false → live ≡ false
place_left true e = e
place_left false e = refl

pub session_created_sound : (k : Core) (c : List ℕ) (sent : Part) (l : Listing) → core_sound k ≡ true → Kept (create_rules k c sent) → Kept (new_session_rules k (sent_uid c sent) l) → core_sound (session_created k (sent_uid c sent) l) ≡ true
unfolding session_created session_with every
session_created_sound k c sent l e r q =
    let f = core_facts k e in
    let uid = sent_uid c sent in
    let n = k.numbers in
    let m = serials_used (own_serials uid) n in
    let later = serials_later n (own_serials uid) in
    let s = renamed (name_from n uid) (session_with l new_session) in
    let gone = place_left (is_live (the_session k)) q.1.1.1.0 in
    let without-films = no_films_held n (the_session k) k.shelf gone f.shelf in
    core_sound_lem (session_created k uid l) record {
      numbers = serials_sound n (own_serials uid) f.numbers q.1.1.1.1.0;
      sessions =
          every_one (session_place_sound m) s
          (place_live m s refl refl
          (session_sound_lem m s
          (name_from_sound k uid m (sendable k c sent r) later.root (counted n f.numbers).serials (omega arith))
          (renamed_values (name_from n uid) (session_with l new_session) (values_with l new_session (q.0, (q.1.0, (q.1.1.0, tt))) new_values))));
      shelf = shelf_empty n m (the_session k) s k.shelf gone f.shelf;
      queue = queue_later n m later k.queue f.queue;
      uids = alone_apart s (films_of k.shelf) without-films;
      opened = f.opened;
    }
