-- The rules of the records are kept where a film is created.
-- Assumes nothing.
use Prim.Native.Nat.{ℕ, ◌+◌, ◌-◌, ◌≤◌}
use mathlib.Core.Path.{◌≡◌, refl, sym, ◌∙◌}
use mathlib.Core.Bool.{Bool, true, false}
use mathlib.Core.List.{List, [], ◌∷◌, ◌++◌, map}
use native.Mathlib.Omega.{arith}
use lib.Dec.{eqb}
use lib.ListN.{length, replicate, length-append, length-map, get_or}
use lib.Seq.{take-append_seam}
use borrow.Author.Tests.{leb-true, le-leb, eqb-false}
use Rattle.choice.specs.Pick.{pick, both, not}
use Rattle.choice.proofs.Picks.{Kept, pick_cases, both_true, both_holds, both_second, either_false, not_true}
use Rattle.octets.specs.Octets.{same}
use Rattle.headers.specs.declared.Part.{Part}
use Rattle.rules.specs.declared.Name.{Name}
use Rattle.rules.specs.declared.Session.{Session}
use Rattle.rules.specs.declared.Film.{Film}
use Rattle.rules.specs.declared.Numbers.{Numbers}
use Rattle.rules.specs.declared.Core.{Core}
use Rattle.rules.specs.Bounds.{most_boxes}
use Rattle.rules.specs.Lists.{every, any, apart, from, filled_to}
use Rattle.rules.specs.Values.{blank, kind_in, counts_in}
use Rattle.rules.specs.Records.{serial, made_name, sent_name, uid_of, box_count, boxes_of, no_box, is_live, films_of, film_named, serials_used, sessions_of, the_session, no_session}
use Rattle.rules.specs.Attributes.{Listing, Standing, look, value_of, fine, mandatory, reference, optional_film, film_create_standings, film_with, layout_in, session_in}
use Rattle.rules.specs.Effects.{too_few_serials, own_serials, name_from, new_box, new_film, film_serials, film_created}
use Rattle.rules.specs.Checks.{create_rules, new_film_rules, sent_uid}
use Rattle.rules.specs.Sound.{name_sound, layout_sound, box_blank, film_sound, Serials, overlap, own_serial, serials_of, sent_text, same_text, uids_apart, core_sound, has_session}
use Rattle.promises.proofs.ListLaws.{each_parts, films_shelved, every_append, every_nil, every_one, every_cons, every_parts, every_replicate, apart_one, apart_append, map_append, from_length, take_filled, drop_filled}
use Rattle.promises.proofs.Facts.{core_facts, core_sound_lem, Counted, counted, live_facts, shelf_facts, shelved_sound, films_few, film_facts, film_sound_lem, the-place}
use Rattle.promises.proofs.Later.{sessions_later, films_later, queue_later, serials_sound, serials_later}
use Rattle.promises.proofs.Standings.{AllFine, kept_fine, mandatory_fine, reference_live}
use Rattle.promises.proofs.Layouts.{counts_lines, kind_sound, layout_sound_lem, new_boxes}
use Rattle.promises.proofs.Instances.{nobody_named}
use Rattle.promises.proofs.NewNames.{Sendable, sendable, name_from_sound, apart_later, apart_none, own_below, text_none, text_free_lem}
use Rattle.promises.proofs.Films.{film_with_sound}
use Rattle.promises.proofs.Places.{film_live_lem}

-- The film.

-- a film before what is optional in its data set
abbrev pub base_film : Core → List ℕ → Listing → Film
base_film k sent l = record {
  name = name_from k.numbers sent;
  session = session_in k l;
  layout = layout_in l;
  orientation = 0;
  magnification = 2;
  first = serial (k.numbers.serial + own_serials sent);
  boxes = filled_to most_boxes no_box (map new_box (from 1 (box_count (layout_in l))));
}

abbrev pub after : Core → List ℕ → Listing → Numbers
after k sent l = serials_used (film_serials sent l) k.numbers

layout_in_sound : (l : Listing) → mandatory blank (λ v. not (eqb (length (counts_in v)) 0)) l (look l 0x2010_0010) ≡ fine → layout_sound (layout_in l) ≡ true
unfolding layout_in
layout_in_sound l e =
    let v = value_of l 0x2010_0010 in
    let a = not_true (eqb (length (counts_in v)) 0) (mandatory_fine blank (λ v. not (eqb (length (counts_in v)) 0)) l (look l 0x2010_0010) e) in
    layout_sound_lem (kind_in v) (counts_in v) (kind_sound v) (counts_lines v (eqb-false (length (counts_in v)) 0 a))

blank_box : box_blank no_box ≡ true
unfolding every
blank_box = refl

base_sound : (k : Core) (sent : List ℕ) (l : Listing) → Sendable k sent → Counted k.numbers → layout_sound (layout_in l) ≡ true → film_sound (after k sent l) (base_film k sent l) ≡ true
unfolding boxes_of
base_sound k sent l s c y =
    let n = k.numbers in
    let m = after k sent l in
    let count = box_count (layout_in l) in
    let xs = map new_box (from 1 count) in
    let size : length xs ≡ count = length-map (from 1 count) new_box ∙ from_length 1 count in
    let c1 = c.serials in
    film_sound_lem m (base_film k sent l) record {
      name = name_from_sound k sent m s (serials_later n (film_serials sent l)).root c.serials (omega arith);
      layout = y;
      orientation = refl;
      magnification = refl;
      first = le-leb 1 (n.serial + own_serials sent) (omega arith);
      last = le-leb (n.serial + own_serials sent + count) m.serial (omega arith);
      boxes = rw (take_filled most_boxes no_box xs count (sym size)) (new_boxes m count c.pictures 1 count (omega arith) (omega arith));
      behind = rw (drop_filled most_boxes no_box xs count (sym size)) (every_replicate box_blank (most_boxes - length xs) no_box blank_box);
    }

pub new_film_sound : (k : Core) (sent : List ℕ) (l : Listing) → Sendable k sent → Counted k.numbers → layout_sound (layout_in l) ≡ true → AllFine (optional_film l) → film_sound (after k sent l) (new_film k sent l) ≡ true
unfolding new_film
new_film_sound k sent l s c y w = film_with_sound (after k sent l) l (base_film k sent l) w (base_sound k sent l s c y)

-- Its serials.

serials_append : (xs ys : List Film) → serials_of (xs ++ ys) ≡ serials_of xs ++ serials_of ys
unfolding serials_of
serials_append [] ys = refl
serials_append (x ∷ xs) ys = rw (serials_append xs ys)

module _ (n : Numbers) (P : Serials → Bool) (low : (a : Serials) → a.from + a.count ≤ n.serial → P a ≡ true) where
  film_serials_lem : (f : Film) → film_sound n f ≡ true → (P (own_serial f.name) ≡ true) × (P (record { from = f.first.0; count = box_count f.layout }) ≡ true)
  film_serials_lem f e =
      let h = film_facts n f e in (
        low (own_serial f.name) (own_below n f.name h.name),
        low (record { from = f.first.0; count = box_count f.layout }) (leb-true (f.first.0 + box_count f.layout) n.serial h.last),
      )

  -- the serials of films are used up
  serials_low : (films : List Film) → every (film_sound n) films ≡ true → every P (serials_of films) ≡ true
  unfolding every serials_of
  serials_low [] e = refl
  serials_low (f ∷ films) e =
      let h = both_true (film_sound n f) (every (film_sound n) films) e in
      let p = film_serials_lem f h.0 in
      both_holds (P (own_serial f.name)) (both (P (record { from = f.first.0; count = box_count f.layout })) (every P (serials_of films))) p.0
      (both_holds (P (record { from = f.first.0; count = box_count f.layout })) (every P (serials_of films)) p.1 (serials_low films h.1))

one_most : (b : Bool) → pick b 0 1 ≤ 1
one_most true = omega arith
one_most false = omega arith

own_new : (n : Numbers) (sent : List ℕ) → (own_serial (name_from n sent)).from + (own_serial (name_from n sent)).count ≤ n.serial + own_serials sent
own_new n sent = new (eqb (length sent) 0)
  where
    new : (t : Bool) → (own_serial (pick t (made_name n.serial) (sent_name sent))).from + (own_serial (pick t (made_name n.serial) (sent_name sent))).count ≤ n.serial + pick t 1 0
    new true = let o = one_most (eqb n.serial 0) in omega arith
    new false = omega arith

own_apart : (n : Numbers) (sent : List ℕ) (a : Serials) → a.from + a.count ≤ n.serial → pick (overlap a (own_serial (name_from n sent))) false true ≡ true
own_apart n sent a h =
    pick_cases (λ (name : Name). pick (overlap a (own_serial name)) false true ≡ true) (eqb (length sent) 0) (made_name n.serial) (sent_name sent)
    (λ e. apart_later a (own_serial (made_name n.serial)) n.serial h (omega arith))
    (λ e. apart_none a (own_serial (sent_name sent)) refl)

-- the serials of its boxes, after its own
abbrev box_serials : Core → List ℕ → Listing → Serials
box_serials k sent l = record { from = k.numbers.serial + own_serials sent; count = box_count (layout_in l) }

module _ (k : Core) (sent : List ℕ) (l : Listing) where
  used_apart : (a : Serials) → a.from + a.count ≤ k.numbers.serial → every (λ b. pick (overlap a b) false true) (own_serial (name_from k.numbers sent) ∷ box_serials k sent l ∷ []) ≡ true
  unfolding every
  used_apart a h =
      both_holds (pick (overlap a (own_serial (name_from k.numbers sent))) false true) (both (pick (overlap a (box_serials k sent l)) false true) true)
      (own_apart k.numbers sent a h)
      (both_holds (pick (overlap a (box_serials k sent l)) false true) true (apart_later a (box_serials k sent l) k.numbers.serial h (omega arith)) refl)

  new_apart : apart overlap (own_serial (name_from k.numbers sent) ∷ box_serials k sent l ∷ []) ≡ true
  unfolding apart every
  new_apart =
      let own = own_serial (name_from k.numbers sent) in
      both_holds (every (λ b. pick (overlap own b) false true) (box_serials k sent l ∷ [])) (apart overlap (box_serials k sent l ∷ []))
      (every_one (λ b. pick (overlap own b) false true) (box_serials k sent l) (apart_later own (box_serials k sent l) (k.numbers.serial + own_serials sent) (own_new k.numbers sent) (omega arith)))
      refl

  serials_apart_lem : (s : Session) (films : List Film) → name_sound k.numbers s.name ≡ true → every (film_sound k.numbers) films ≡ true → apart overlap (own_serial s.name ∷ serials_of films) ≡ true → apart overlap (own_serial s.name ∷ serials_of (films ++ (new_film k sent l ∷ []))) ≡ true
  unfolding new_film film_with serials_of
  serials_apart_lem s films e f a =
      let new = own_serial (name_from k.numbers sent) ∷ box_serials k sent l ∷ [] in
      let P : Serials → Bool = λ a. every (λ b. pick (overlap a b) false true) new in
      rw (serials_append films (new_film k sent l ∷ []))
      (apart_append overlap (own_serial s.name ∷ serials_of films) new a new_apart
      (every_cons P (own_serial s.name) (serials_of films) (used_apart (own_serial s.name) (own_below k.numbers s.name e)) (serials_low k.numbers P used_apart films f)))

-- Its text.

text_new : (n : Numbers) (sent : List ℕ) (name : Name) → name_sound n name ≡ true → ((length sent ≡ 0 → ⊥) → same sent (uid_of n name) ≡ false) → same_text (sent_text name) (sent_text (name_from n sent)) ≡ false
text_new n sent name e f =
    pick_cases (λ (new : Name). same_text (sent_text name) (sent_text new) ≡ false) (eqb (length sent) 0) (made_name n.serial) (sent_name sent)
    (λ t. text_none (sent_text name))
    (λ t. rw (take-append_seam sent (replicate (64 - length sent) 0)) (text_free_lem n name sent e (f (eqb-false (length sent) 0 t))))

not_holds : (b : Bool) → b ≡ false → pick b false true ≡ true
not_holds b e = rw e

module _ (n : Numbers) (sent : List ℕ) where
  text_apart : (name : Name) → name_sound n name ≡ true → ((length sent ≡ 0 → ⊥) → same sent (uid_of n name) ≡ false) → every (λ b. pick (same_text (sent_text name) b) false true) (sent_text (name_from n sent) ∷ []) ≡ true
  text_apart name e f =
      every_one (λ b. pick (same_text (sent_text name) b) false true) (sent_text (name_from n sent))
      (not_holds (same_text (sent_text name) (sent_text (name_from n sent))) (text_new n sent name e f))

  texts_low : (films : List Film) → every (film_sound n) films ≡ true → ((length sent ≡ 0 → ⊥) → any (film_named n sent) films ≡ false) → every (λ a. every (λ b. pick (same_text a b) false true) (sent_text (name_from n sent) ∷ [])) (map (λ (f : Film). sent_text f.name) films) ≡ true
  unfolding any
  texts_low [] e f = every_nil _
  texts_low (x ∷ films) e f =
      let h = every_parts (film_sound n) x films e in
      every_cons (λ a. every (λ b. pick (same_text a b) false true) (sent_text (name_from n sent) ∷ [])) (sent_text x.name) (map (λ (f : Film). sent_text f.name) films)
      (text_apart x.name (film_facts n x h.0).name (λ z. (either_false (film_named n sent x) (any (film_named n sent) films) (f z)).0))
      (texts_low films h.1 (λ z. (either_false (film_named n sent x) (any (film_named n sent) films) (f z)).1))

  texts_apart_lem : (s : Session) (films : List Film) (new : Film) → new.name ≡ name_from n sent → name_sound n s.name ≡ true → every (film_sound n) films ≡ true
      → ((length sent ≡ 0 → ⊥) → same sent (uid_of n s.name) ≡ false) → ((length sent ≡ 0 → ⊥) → any (film_named n sent) films ≡ false)
      → apart same_text (sent_text s.name ∷ map (λ (f : Film). sent_text f.name) films) ≡ true
      → apart same_text (sent_text s.name ∷ map (λ (f : Film). sent_text f.name) (films ++ (new ∷ []))) ≡ true
  texts_apart_lem s films new q e f g h a =
      let t = sent_text (name_from n sent) ∷ [] in
      let P : List ℕ → Bool = λ a. every (λ b. pick (same_text a b) false true) t in
      rw (map_append (λ (f : Film). sent_text f.name) films (new ∷ []), q)
      (apart_append same_text (sent_text s.name ∷ map (λ (f : Film). sent_text f.name) films) t a (apart_one same_text (sent_text (name_from n sent)))
      (every_cons P (sent_text s.name) (map (λ (f : Film). sent_text f.name) films) (text_apart s.name e g) (texts_low films f h)))

-- Creating.

-- what the checks of a new film tell
record Checked (k : Core) (sent : List ℕ) (l : Listing) : Type 0 where
  owned : is_live (get_or (sessions_of k) (session_in k l) no_session) ≡ true
  layout : layout_sound (layout_in l) ≡ true
  optional : AllFine (optional_film l)
  few : length (films_of k.shelf) ≡ 8 → ⊥
  enough : too_few_serials k.numbers (film_serials sent l) ≡ false

checked : (k : Core) (sent : List ℕ) (l : Listing) → Kept (new_film_rules k sent l) → Checked k sent l
unfolding film_create_standings
checked k sent l h =
    let format = mandatory blank (λ v. not (eqb (length (counts_in v)) 0)) l (look l 0x2010_0010) in
    let refers = reference k l (look l 0x2010_0500) in
    let all_fine : AllFine (format ∷ (refers ++ optional_film l)) = kept_fine (format ∷ (refers ++ optional_film l)) (h.0, (h.1.0, (h.1.1.0, tt))) in
    let parts = each_parts (λ (s : Standing). s ≡ fine) refers (optional_film l) all_fine.1 in
    record {
      owned = reference_live k l parts.0;
      layout = layout_in_sound l all_fine.0;
      optional = parts.1;
      few = eqb-false (length (films_of k.shelf)) 8 h.1.1.1.0;
      enough = h.1.1.1.1.0;
    }

new_name : (k : Core) (sent : List ℕ) (l : Listing) → (new_film k sent l).name ≡ name_from k.numbers sent
unfolding new_film film_with
new_name k sent l = refl

new_owned : (k : Core) (sent : List ℕ) (l : Listing) → is_live (get_or (sessions_of k) (session_in k l) no_session) ≡ true → has_session (sessions_of k) (new_film k sent l) ≡ true
unfolding new_film film_with
new_owned k sent l e = e

new_uids : (k : Core) (sent : List ℕ) (l : Listing) → core_sound k ≡ true → Sendable k sent → is_live (the_session k) ≡ true → uids_apart (sessions_of k) (films_of k.shelf ++ (new_film k sent l ∷ [])) ≡ true
unfolding uids_apart
new_uids k sent l e s live =
    let r = core_facts k e in
    let n = k.numbers in
    let films = films_of k.shelf in
    let each = (shelf_facts n (sessions_of k) k.shelf r.shelf).films in
    let name = (live_facts n (the_session k) (the-place k r) live).0 in
    let b = both_true (apart overlap (own_serial (the_session k).name ∷ serials_of films)) (apart same_text (sent_text (the_session k).name ∷ map (λ (f : Film). sent_text f.name) films)) r.uids in
    both_holds (apart overlap (own_serial (the_session k).name ∷ serials_of (films ++ (new_film k sent l ∷ [])))) (apart same_text (sent_text (the_session k).name ∷ map (λ (f : Film). sent_text f.name) (films ++ (new_film k sent l ∷ []))))
    (serials_apart_lem k sent l (the_session k) films name each b.0)
    (texts_apart_lem n sent (the_session k) films (new_film k sent l) (new_name k sent l) name each
    (λ z. both_second (is_live (the_session k)) (same sent (uid_of n (the_session k).name)) (nobody_named k sent (s.free z)).0 live)
    (λ z. (nobody_named k sent (s.free z)).1)
    b.1)

-- a UID that check 6 passes, and attributes and numbers that checks 8 and 9 pass
pub film_created_sound : (k : Core) (sent : List ℕ) (l : Listing) → core_sound k ≡ true → Sendable k sent → Kept (new_film_rules k sent l) → core_sound (film_created k sent l) ≡ true
unfolding film_created
film_created_sound k sent l e s h =
    let c = checked k sent l h in
    let r = core_facts k e in
    let n = k.numbers in
    let m = after k sent l in
    let later = serials_later k.numbers (film_serials sent l) in
    let films = films_of k.shelf in
    let new = new_film k sent l in
    let few = films_few n (sessions_of k) k.shelf r.shelf in
    let other = c.few in
    let all_new = films ++ (new ∷ []) in
    let old = shelf_facts n (sessions_of k) k.shelf r.shelf in
    let own = new_owned k sent l c.owned in
    core_sound_lem _ record {
      numbers = serials_sound n (film_serials sent l) r.numbers c.enough;
      sessions = sessions_later n m later (sessions_of k) r.sessions;
      shelf =
          shelved_sound m (sessions_of k) all_new
          (rw (length-append films (new ∷ [])) (omega arith))
          (every_append (has_session (sessions_of k)) films (new ∷ []) old.owned (every_one (has_session (sessions_of k)) new own))
          (every_append (film_sound m) films (new ∷ []) (films_later n m later films old.films) (every_one (film_sound m) new (new_film_sound k sent l s (counted n r.numbers) c.layout c.optional)));
      queue = queue_later n m later k.queue r.queue;
      uids = rw (films_shelved all_new) (new_uids k sent l e s (film_live_lem k new own));
      opened = r.opened;
    }

-- the same, for the UID that a command sends
pub film_create_sound : (k : Core) (c : List ℕ) (sent : Part) (l : Listing) → core_sound k ≡ true → Kept (create_rules k c sent) → Kept (new_film_rules k (sent_uid c sent) l) → core_sound (film_created k (sent_uid c sent) l) ≡ true
film_create_sound k c sent l e h g = film_created_sound k (sent_uid c sent) l e (sendable k c sent h) g
