-- The rules of the records are kept where a film is deleted or set.
-- Assumes nothing.
use Prim.Native.Nat.{ℕ, zero, suc, ◌≤◌}
use mathlib.Core.Path.{◌≡◌, refl, ap}
use mathlib.Core.Bool.{true}
use mathlib.Core.List.{List, [], ◌∷◌, map, ◌++◌}
use native.Mathlib.Omega.{arith}
use lib.Dec.{leb}
use lib.ListN.{length, get_or, set, take, drop, length-append, length-take, length-drop, length-set}
use lib.Seq.{map-set_same}
use Rattle.choice.proofs.Picks.{Kept, both_true, both_holds}
use Rattle.rules.specs.declared.Session.{Session}
use Rattle.rules.specs.declared.Film.{Film}
use Rattle.rules.specs.declared.Numbers.{Numbers}
use Rattle.rules.specs.declared.Core.{Core}
use Rattle.rules.specs.Lists.{every, apart, without}
use Rattle.rules.specs.Records.{films_of, no_film, boxes_of, with_films, sessions_of}
use Rattle.rules.specs.Values.{code_in, orientations, magnifications}
use Rattle.rules.specs.Attributes.{Listing, code_allowed, attribute_rules, optional_film, film_set_standings, film_with}
use Rattle.rules.specs.Effects.{film_at, film_deleted, film_set}
use Rattle.rules.specs.Sound.{film_sound, overlap, own_serial, serials_of, sent_text, same_text, uids_apart, core_sound, has_session}
use Rattle.rules.specs.Bounds.{most_films}
use Rattle.promises.proofs.ListLaws.{films_shelved, every_at, every_set, every_part, apart_part, Part, done, skip, keep, part_map, part_without, part_front}
use Rattle.promises.proofs.Facts.{core_facts, core_sound_lem, shelf_facts, shelved_sound, films_few, film_facts, film_sound_lem}
use Rattle.promises.proofs.Standings.{AllFine, kept_fine, or_kept_lem, code_given}

-- the rules are kept by other films
with_films_lem : (k : Core) (films : List Film) → core_sound k ≡ true → length films ≤ most_films → every (has_session (sessions_of k)) films ≡ true → every (film_sound k.numbers) films ≡ true → uids_apart (sessions_of k) films ≡ true → core_sound (with_films films k) ≡ true
with_films_lem k films e few own each u =
    let f = core_facts k e in
    core_sound_lem (with_films films k) record {
      numbers = f.numbers;
      sessions = f.sessions;
      shelf = shelved_sound k.numbers (sessions_of k) films few own each;
      queue = f.queue;
      uids = rw (films_shelved films) u;
      opened = f.opened;
    }

-- Deleting.

part_serials : {xs ys : List Film} → Part xs ys → Part (serials_of xs) (serials_of ys)
unfolding serials_of
part_serials done = done
part_serials (skip p) = skip (skip (part_serials p))
part_serials (keep p) = keep (keep (part_serials p))

uids_part : (sessions : List Session) {xs ys : List Film} → Part xs ys → uids_apart sessions ys ≡ true → uids_apart sessions xs ≡ true
unfolding uids_apart
uids_part sessions {xs} {ys} p e =
    let own = map (λ (s : Session). own_serial s.name) sessions in
    let sent = map (λ (s : Session). sent_text s.name) sessions in
    let b = both_true (apart overlap (own ++ serials_of ys)) (apart same_text (sent ++ map (λ (f : Film). sent_text f.name) ys)) e in
    both_holds (apart overlap (own ++ serials_of xs)) (apart same_text (sent ++ map (λ (f : Film). sent_text f.name) xs))
    (apart_part overlap (part_front own (part_serials p)) b.0)
    (apart_part same_text (part_front sent (part_map (λ (f : Film). sent_text f.name) p)) b.1)

without_length : (i : ℕ) (films : List Film) → length (without i films) ≤ length films
without_length i films = rw (length-append (take i films) (drop (suc i) films)) (simp (length-take, length-drop) (omega arith))

pub film_deleted_sound : (k : Core) (i : ℕ) → core_sound k ≡ true → core_sound (film_deleted k i) ≡ true
unfolding film_deleted
film_deleted_sound k i e =
    let f = core_facts k e in
    let films = films_of k.shelf in
    let few = films_few k.numbers (sessions_of k) k.shelf f.shelf in
    with_films_lem k (without i films) e
    (omega (arith, few, without_length i films))
    (every_part (has_session (sessions_of k)) (part_without i films) (shelf_facts k.numbers (sessions_of k) k.shelf f.shelf).owned)
    (every_part (film_sound k.numbers) (part_without i films) (shelf_facts k.numbers (sessions_of k) k.shelf f.shelf).films)
    (uids_part (sessions_of k) (part_without i films) f.uids)

-- Setting.

-- a film's rules are kept by what a data set gives, where it stands well
pub film_with_sound : (n : Numbers) (l : Listing) (f : Film) → AllFine (optional_film l) → film_sound n f ≡ true → film_sound n (film_with l f) ≡ true
unfolding film_with boxes_of optional_film
film_with_sound n l f w e =
    let t = film_facts n f e in
    film_sound_lem n (film_with l f) record {
      name = t.name;
      layout = t.layout;
      orientation = or_kept_lem (λ n. leb n 1 ≡ true) (code_allowed orientations) l 0x2010_0040 (code_in orientations) f.orientation w.0 (code_given orientations 1 (omega arith)) t.orientation;
      magnification = or_kept_lem (λ n. leb n 3 ≡ true) (code_allowed magnifications) l 0x2010_0060 (code_in magnifications) f.magnification w.1.0 (code_given magnifications 3 (omega arith)) t.magnification;
      first = t.first;
      last = t.last;
      boxes = t.boxes;
      behind = t.behind;
    }

-- a film with the same name and serials in the place of another
serials_set : (films : List Film) (i : ℕ) (f : Film) → f.name ≡ (get_or films i no_film).name → f.first ≡ (get_or films i no_film).first → f.layout ≡ (get_or films i no_film).layout → serials_of (set films i f) ≡ serials_of films
unfolding serials_of
serials_set [] i f a b c = refl
serials_set (x ∷ films) zero f a b c = rw (a, b, c)
serials_set (x ∷ films) (suc i) f a b c = rw (serials_set films i f a b c)

pub uids_set : (sessions : List Session) (films : List Film) (i : ℕ) (f : Film) → f.name ≡ (get_or films i no_film).name → f.first ≡ (get_or films i no_film).first → f.layout ≡ (get_or films i no_film).layout → uids_apart sessions films ≡ true → uids_apart sessions (set films i f) ≡ true
unfolding uids_apart
uids_set sessions films i f a b c e =
    rw (serials_set films i f a b c, map-set_same (λ (g : Film). sent_text g.name) films i f no_film (ap sent_text a)) e

pub film_set_sound : (k : Core) (i : ℕ) (l : Listing) → core_sound k ≡ true → Kept (attribute_rules (film_set_standings l)) → core_sound (film_set k i l) ≡ true
unfolding film_set film_set_standings film_with
film_set_sound k i l e w =
    let c = core_facts k e in
    let films = films_of k.shelf in
    let facts = shelf_facts k.numbers (sessions_of k) k.shelf c.shelf in
    let each = facts.films in
    let f = film_with l (film_at k i) in
    with_films_lem k (set films i f) e
    (rw (length-set films i f) (films_few k.numbers (sessions_of k) k.shelf c.shelf))
    (every_set (has_session (sessions_of k)) films i f facts.owned (λ b. every_at (has_session (sessions_of k)) films i no_film facts.owned b))
    (every_set (film_sound k.numbers) films i f each (λ b. film_with_sound k.numbers l (film_at k i) (kept_fine (film_set_standings l) w).1.1 (every_at (film_sound k.numbers) films i no_film each b)))
    (uids_set (sessions_of k) films i f refl refl refl c.uids)
