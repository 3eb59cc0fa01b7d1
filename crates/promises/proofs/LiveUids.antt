-- The UIDs of all that is live, session, films and boxes: no two are equal, character by character.
-- Assumes nothing.
use Prim.Native.Nat.{ℕ, ◌+◌, ◌<◌, ◌≤◌}
use mathlib.Core.Path.{◌≡◌, refl, sym, ◌∙◌}
use mathlib.Core.Bool.{Bool, true, false}
use mathlib.Core.List.{List, [], ◌∷◌, ◌++◌, map}
use native.Mathlib.Omega.{arith}
use lib.Dec.{eqb, ltb}
use lib.ListN.{length, get_or}
use borrow.Author.Tests.{leb-true, ltb-true, lt-ltb, ne_eqb}
use Rattle.choice.specs.Pick.{pick, not}
use Rattle.choice.proofs.Picks.{pick_cases, both_true, both_holds, not_true, clash}
use Rattle.octets.specs.Octets.{same}
use Rattle.octets.proofs.Same.{same_self}
use Rattle.uids.specs.Uids.{begins_with, made}
use Rattle.uids.proofs.Length.{uid_some}
use Rattle.uids.proofs.Made.{made_apart, never_made}
use Rattle.strike.specs.Service.{Call}
use Rattle.strike.specs.Machine.{Records}
use Rattle.strike.specs.Messages.{after}
use Rattle.rules.specs.declared.Name.{Name}
use Rattle.rules.specs.declared.Session.{Session}
use Rattle.rules.specs.declared.Film.{Film}
use Rattle.rules.specs.declared.Numbers.{Numbers}
use Rattle.rules.specs.declared.Core.{Core}
use Rattle.rules.specs.Bounds.{none_left}
use Rattle.rules.specs.Lists.{every, apart, from}
use Rattle.rules.specs.Records.{root_of, uid_of, box_count, films_of, is_live, box_uids, sessions_of, the_session}
use Rattle.rules.specs.Sound.{name_sound, sent_sound, made_sound, film_sound, Serials, overlap, own_serial, serials_of, sent_text, same_text, uids_apart, core_sound}
use Rattle.rules.specs.Calls.{handed, printing}
use Rattle.rules.specs.Text.{chars}
use Rattle.rules.proofs.Stage.{film_live}
use Rattle.promises.proofs.ListLaws.{all_true, every_parts, Each, each_all, each_append, every_map, apart_parts, Unlike, Differ, joined, differ_append, differ_all, differ_one}
use Rattle.promises.proofs.Facts.{between_true, core_facts, numbers_facts, shelf_facts, live_facts, film_facts, the-place}
use Rattle.promises.proofs.Instances.{box_uids_length, box_uid_at}
use Rattle.promises.proofs.NewNames.{text_none}
use Rattle.promises.proofs.Kept.{run_keeps}
use Rattle.rules.proofs.Book.{the_book}

-- the session's UID, where it is live
abbrev pub session_uids : Numbers → Session → List (List ℕ)
session_uids n s = pick (is_live s) (uid_of n s.name ∷ []) []

-- a film's UID, and those of its boxes
abbrev pub film_uids : Numbers → Film → List (List ℕ)
film_uids n f = uid_of n f.name ∷ box_uids n f

-- the session's, and then each film's
abbrev pub uid_lists : Core → List (List (List ℕ))
uid_lists k = session_uids k.numbers (the_session k) ∷ map (film_uids k.numbers) (films_of k.shelf)

-- the UIDs of all that is live
abbrev pub live_uids : Core → List (List ℕ)
live_uids k = joined (uid_lists k)

-- Where a UID comes from: it is made of a serial that is held, or it is the text that was sent.

data From (n : Numbers) (held : Serials) (text uid : List ℕ) : Type 0 where
  by_serial : (x : ℕ) → x < none_left → held.from ≤ x → x < held.from + held.count → uid ≡ made (root_of n) x → From n held text uid
  by_text : (length text ≡ 0 → ⊥) → begins_with (root_of n) text ≡ false → uid ≡ text → From n held text uid

-- no serial is held twice
held_once : (a b : Serials) (x : ℕ) → pick (overlap a b) false true ≡ true → a.from ≤ x → x < a.from + a.count → b.from ≤ x → x < b.from + b.count → ⊥
held_once a b x e h i j k =
    clash (not_true (overlap a b) e)
    (both_holds (ltb a.from (b.from + b.count)) (ltb b.from (a.from + a.count)) (lt-ltb a.from (b.from + b.count) (omega arith)) (lt-ltb b.from (a.from + a.count) (omega arith)))

-- no text is sent twice
sent_once : (s t : List ℕ) → pick (same_text s t) false true ≡ true → (length s ≡ 0 → ⊥) → s ≡ t → ⊥
sent_once s t e some q =
    clash (not_true (same_text s t) e)
    (both_holds (not (eqb (length s) 0)) (same s t) (rw (ne_eqb (length s) 0 some)) (rw q (same_self t)))

module _ (n : Numbers) (a b : Serials) (s t u v : List ℕ) where
  -- UIDs of serials and texts that are others are others
  from_differ : pick (overlap a b) false true ≡ true → pick (same_text s t) false true ≡ true → From n a s u → From n b t v → u ≡ v → ⊥
  from_differ serials texts (by_serial x l h i e) (by_serial y m j k f) q =
      let z = made_apart (root_of n) x y l m (sym e ∙ q ∙ f) in
      held_once a b x serials h i (omega arith) (omega arith)
  from_differ serials texts (by_serial x l h i e) (by_text some foreign f) q = never_made (root_of n) x t foreign (sym f ∙ sym q ∙ e)
  from_differ serials texts (by_text some foreign e) (by_serial y m j k f) q = never_made (root_of n) y s foreign (sym e ∙ q ∙ f)
  from_differ serials texts (by_text some foreign e) (by_text some' foreign' f) q = sent_once s t texts some (sym e ∙ q ∙ f)

-- A name's UID, and those of a film's boxes.

abbrev texts_of : List Film → List (List ℕ)
texts_of films = map (λ (f : Film). sent_text f.name) films

abbrev box_serials : Film → Serials
box_serials f = record { from = f.first.0; count = box_count f.layout }

module _ (n : Numbers) (few : n.serial ≤ none_left) where
  name_from_lem : (name : Name) → name_sound n name ≡ true → From n (own_serial name) (sent_text name) (uid_of n name)
  unfolding name_sound uid_of
  name_from_lem name e = by (eqb name.made.0 0) e
    where
      by : (t : Bool) → pick t (sent_sound n name) (made_sound n name) ≡ true → From n (record { from = name.made.0; count = pick t 0 1 }) (sent_text name) (pick t (sent_text name) (made (root_of n) name.made.0))
      by true e = let s = all_true _ e in by_text (uid_some (sent_text name) s.1.0) (not_true (begins_with (root_of n) (sent_text name)) s.1.1.0) refl
      by false e = let l = ltb-true name.made.0 n.serial (all_true _ e).0 in by_serial name.made.0 (omega arith) (omega arith) (omega arith) refl

  module _ (f : Film) (sound : film_sound n f ≡ true) where
    box_from : (i : ℕ) → i < length (box_uids n f) → From n (box_serials f) [] (get_or (box_uids n f) i [])
    box_from i h =
        let c = box_uids_length n f in
        let l = leb-true (f.first.0 + box_count f.layout) n.serial (film_facts n f sound).last in
        by_serial (f.first.0 + i) (omega arith) (omega arith) (omega arith) (box_uid_at n f i (omega arith))

    boxes_differ : Differ (box_uids n f)
    boxes_differ = differ_all (box_uids n f) [] two
      where
        two : (i j : ℕ) → i < j → j < length (box_uids n f) → get_or (box_uids n f) i [] ≡ get_or (box_uids n f) j [] → ⊥
        two i j h k e =
            let c = box_uids_length n f in
            let l = leb-true (f.first.0 + box_count f.layout) n.serial (film_facts n f sound).last in
            let z = made_apart (root_of n) (f.first.0 + i) (f.first.0 + j) (omega arith) (omega arith) (sym (box_uid_at n f i (omega arith)) ∙ e ∙ box_uid_at n f j (omega arith)) in
            omega arith

  -- from a UID's serials and text to those of films
  others_differ : (held : Serials) (text uid : List ℕ) → From n held text uid → (films : List Film) → every (film_sound n) films ≡ true
      → every (λ b. pick (overlap held b) false true) (serials_of films) ≡ true
      → every (λ t. pick (same_text text t) false true) (texts_of films) ≡ true
      → Each (Unlike uid) (joined (map (film_uids n) films))
  unfolding serials_of
  others_differ held text uid origin [] e serials texts = tt
  others_differ held text uid origin (f ∷ films) e serials texts =
      let sound = every_parts (film_sound n) f films e in
      let own = every_parts (λ b. pick (overlap held b) false true) (own_serial f.name) (box_serials f ∷ serials_of films) serials in
      let boxes = every_parts (λ b. pick (overlap held b) false true) (box_serials f) (serials_of films) own.1 in
      let sent = every_parts (λ t. pick (same_text text t) false true) (sent_text f.name) (texts_of films) texts in (
        from_differ n held (own_serial f.name) text (sent_text f.name) uid (uid_of n f.name) own.0 sent.0 origin (name_from_lem f.name (film_facts n f sound.0).name),
        each_append (Unlike uid) (box_uids n f) (joined (map (film_uids n) films))
            (each_all (Unlike uid) (box_uids n f) [] (λ i h. from_differ n held (box_serials f) text [] uid (get_or (box_uids n f) i []) boxes.0 (rw (text_none text)) origin (box_from f sound.0 i h)))
            (others_differ held text uid origin films sound.1 boxes.1 sent.1),
      )

  films_differ : (films : List Film) → every (film_sound n) films ≡ true → apart overlap (serials_of films) ≡ true → apart same_text (texts_of films) ≡ true → Differ (joined (map (film_uids n) films))
  unfolding serials_of
  films_differ [] e serials texts = tt
  films_differ (f ∷ films) e serials texts =
      let sound = every_parts (film_sound n) f films e in
      let own = apart_parts overlap (own_serial f.name) (box_serials f ∷ serials_of films) serials in
      let mine = every_parts (λ b. pick (overlap (own_serial f.name) b) false true) (box_serials f) (serials_of films) own.0 in
      let boxes = apart_parts overlap (box_serials f) (serials_of films) own.1 in
      let sent = apart_parts same_text (sent_text f.name) (texts_of films) texts in
      let name = name_from_lem f.name (film_facts n f sound.0).name in (
        each_append (Unlike (uid_of n f.name)) (box_uids n f) (joined (map (film_uids n) films))
            (each_all (Unlike (uid_of n f.name)) (box_uids n f) [] (λ i h. from_differ n (own_serial f.name) (box_serials f) (sent_text f.name) [] (uid_of n f.name) (get_or (box_uids n f) i []) mine.0 (rw (text_none (sent_text f.name))) name (box_from f sound.0 i h)))
            (others_differ (own_serial f.name) (sent_text f.name) (uid_of n f.name) name films sound.1 mine.1 sent.0),
        differ_append (box_uids n f) (joined (map (film_uids n) films)) (boxes_differ f sound.0) (films_differ films sound.1 boxes.1 sent.1)
            (each_all (λ u. Each (Unlike u) (joined (map (film_uids n) films))) (box_uids n f) [] (λ i h. others_differ (box_serials f) [] (get_or (box_uids n f) i []) (box_from f sound.0 i h) films sound.1 boxes.0 (every_map (λ t. pick (same_text [] t) false true) (λ (f : Film). sent_text f.name) (λ f. refl) films))),
      )

-- All that is live.

pub uids_differ : (k : Core) → core_sound k ≡ true → Differ (live_uids k)
unfolding uids_apart
uids_differ k e =
    let r = core_facts k e in
    let n = k.numbers in
    let s = the_session k in
    let films = films_of k.shelf in
    let few = (between_true 1 none_left n.serial (numbers_facts n r.numbers).serial).1 in
    let sound = (shelf_facts n (sessions_of k) k.shelf r.shelf).films in
    let b = both_true (apart overlap (own_serial s.name ∷ serials_of films)) (apart same_text (sent_text s.name ∷ texts_of films)) r.uids in
    let serials = apart_parts overlap (own_serial s.name) (serials_of films) b.0 in
    let texts = apart_parts same_text (sent_text s.name) (texts_of films) b.1 in
    let rest = films_differ n few films sound serials.1 texts.1 in
    pick_cases (λ uids. Differ (uids ++ joined (map (film_uids n) films))) (is_live s) (uid_of n s.name ∷ []) []
    (λ live. (others_differ n few (own_serial s.name) (sent_text s.name) (uid_of n s.name) (name_from_lem n few s.name (live_facts n s (the-place k r) live).0) films sound serials.0 texts.0, rest))
    (λ gone. rest)

-- the UIDs at two places are never equal
abbrev pub LiveUidsDiffer : Core → Type 0
LiveUidsDiffer k = (i j : ℕ) → i < j → j < length (live_uids k) → get_or (live_uids k) i [] ≡ get_or (live_uids k) j [] → ⊥

-- In records that keep their rules no two live UIDs are equal.
pub live_uids_differ : (k : Core) → core_sound k ≡ true → LiveUidsDiffer k
live_uids_differ k e i j h l q = let z = differ_one (live_uids k) [] i j (uids_differ k e) (omega arith) l q in omega arith

-- Nor are they after any run of calls.
pub live_uids_differ_always : (s : Records Core) (calls : List (Call handed)) → core_sound s.core ≡ true → LiveUidsDiffer (after printing s calls).core
live_uids_differ_always s calls e = live_uids_differ (after printing s calls).core (run_keeps s calls e)

-- At work: a session, its film, and the film's six boxes.
pub live_uids_at_work : live_uids film_live ≡ map chars ("1.2.3" ∷ "1.9.7.100" ∷ "1.9.7.101" ∷ "1.9.7.102" ∷ "1.9.7.103" ∷ "1.9.7.104" ∷ "1.9.7.105" ∷ "1.9.7.106" ∷ [])
unfolding the_book
live_uids_at_work = refl
