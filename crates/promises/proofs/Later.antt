-- The rules of the records hold with later next numbers as well.
-- Assumes nothing.
use Prim.Native.Nat.{ℕ, ◌+◌, ◌≤◌}
use mathlib.Core.Path.{◌≡◌, refl}
use mathlib.Core.Bool.{Bool, true, false}
use mathlib.Core.List.{List}
use native.Mathlib.Omega.{arith}
use lib.Dec.{eqb, leb, ltb}
use borrow.Author.Tests.{leb-true, le-leb, ltb-true, lt-ltb, ltb-false}
use Rattle.choice.specs.Pick.{pick}
use Rattle.rules.specs.declared.Name.{Name}
use Rattle.rules.specs.declared.Picture.{Picture}
use Rattle.rules.specs.declared.Session.{Session}
use Rattle.rules.specs.declared.ImageBox.{ImageBox}
use Rattle.rules.specs.declared.Film.{Film}
use Rattle.rules.specs.declared.Shelf.{Shelf}
use Rattle.rules.specs.declared.Entry.{Entry}
use Rattle.rules.specs.declared.Queue.{Queue}
use Rattle.rules.specs.declared.Numbers.{Numbers}
use Rattle.rules.specs.Bounds.{none_left}
use Rattle.rules.specs.Lists.{every}
use Rattle.rules.specs.Records.{root_of, box_count, boxes_of, is_live, films_of, serials_used}
use Rattle.rules.specs.Effects.{too_few_serials}
use Rattle.rules.specs.Sound.{numbers_sound, name_sound, sent_sound, made_sound, box_sound, film_sound, shelf_sound, entry_sound, queue_sound, session_sound, session_blank, session_place_sound, flag}
use Rattle.promises.proofs.ListLaws.{all_true, all_holds, every_so}
use Rattle.promises.proofs.Facts.{between_holds, numbers_facts, numbers_sound_lem, counted, shelf_facts, shelf_sound_lem, queue_facts, queue_sound_lem, session_facts, session_sound_lem, box_facts, box_sound_lem, film_facts, film_sound_lem}
use Rattle.choice.proofs.Picks.{both_true, both_holds}

-- numbers of the same root, none of them lower
pub record Later (n m : Numbers) : Type 0 where
  pub root : root_of m ≡ root_of n
  pub serials : n.serial ≤ m.serial
  pub pictures : n.picture ≤ m.picture

pick_both : (t a b c d : Bool) → (a ≡ true → c ≡ true) → (b ≡ true → d ≡ true) → pick t a b ≡ true → pick t c d ≡ true
pick_both true a b c d f g e = f e
pick_both false a b c d f g e = g e

below_later : (x a b : ℕ) → a ≤ b → ltb x a ≡ true → ltb x b ≡ true
below_later x a b h e = let l = ltb-true x a e in lt-ltb x b (omega arith)

module _ (n m : Numbers) (later : Later n m) where
  below_picture : (p : ℕ) → ltb p n.picture ≡ true → ltb p m.picture ≡ true
  below_picture p = below_later p n.picture m.picture later.pictures

  up_to_serial : (s : ℕ) → leb s n.serial ≡ true → leb s m.serial ≡ true
  up_to_serial s e = let h : s ≤ n.serial = leb-true s n.serial e in let k = later.serials in le-leb s m.serial (omega arith)

  sent_later : (name : Name) → sent_sound n name ≡ true → sent_sound m name ≡ true
  sent_later name e = rw later.root e

  made_later : (name : Name) → made_sound n name ≡ true → made_sound m name ≡ true
  made_later name e = let h = all_true _ e in all_holds _ (below_later name.made.0 n.serial m.serial later.serials h.0, h.1)

  pub name_later : (name : Name) → name_sound n name ≡ true → name_sound m name ≡ true
  unfolding name_sound
  name_later name = pick_both (eqb name.made.0 0) (sent_sound n name) (made_sound n name) (sent_sound m name) (made_sound m name) (sent_later name) (made_later name)

  sound_later : (s : Session) → session_sound n s ≡ true → session_sound m s ≡ true
  sound_later s e = let f = session_facts n s e in session_sound_lem m s (name_later s.name f.0) f.1

  place_later : (s : Session) → session_place_sound n s ≡ true → session_place_sound m s ≡ true
  place_later s e =
      let b = both_true (flag s.live) (pick (is_live s) (session_sound n s) (session_blank s)) e in
      both_holds (flag s.live) (pick (is_live s) (session_sound m s) (session_blank s)) b.0
      (pick_both (is_live s) (session_sound n s) (session_blank s) (session_sound m s) (session_blank s) (sound_later s) (λ t. t) b.1)

  pub sessions_later : (sessions : List Session) → every (session_place_sound n) sessions ≡ true → every (session_place_sound m) sessions ≡ true
  sessions_later sessions e = every_so (session_place_sound n) (session_place_sound m) place_later sessions e

  pub box_later : (boxes : ℕ) (b : ImageBox) → box_sound boxes n b ≡ true → box_sound boxes m b ≡ true
  box_later boxes b e =
      let t = box_facts boxes n b e in
      box_sound_lem boxes m b t.0 t.1 (below_picture b.picture.0 t.2)

  pub film_later : (f : Film) → film_sound n f ≡ true → film_sound m f ≡ true
  film_later f e =
      let t = film_facts n f e in
      film_sound_lem m f record {
        name = name_later f.name t.name;
        layout = t.layout;
        orientation = t.orientation;
        magnification = t.magnification;
        first = t.first;
        last = up_to_serial (f.first.0 + box_count f.layout) t.last;
        boxes = every_so (box_sound (box_count f.layout) n) (box_sound (box_count f.layout) m) (box_later (box_count f.layout)) (boxes_of f) t.boxes;
        behind = t.behind;
      }

  pub films_later : (films : List Film) → every (film_sound n) films ≡ true → every (film_sound m) films ≡ true
  films_later films e = every_so (film_sound n) (film_sound m) film_later films e

  pub shelf_later : (sessions : List Session) (shelf : Shelf) → shelf_sound n sessions shelf ≡ true → shelf_sound m sessions shelf ≡ true
  shelf_later sessions shelf e =
      let f = shelf_facts n sessions shelf e in
      shelf_sound_lem m sessions shelf record { count = f.count; owned = f.owned; films = films_later (films_of shelf) f.films; behind = f.behind }

  pub entry_later : (x : Entry) → entry_sound n x ≡ true → entry_sound m x ≡ true
  unfolding entry_sound
  entry_later x e =
      let t = all_true _ e in
      all_holds _ (
        every_so (λ (p : Picture). ltb p.0 n.picture) (λ (p : Picture). ltb p.0 m.picture) (λ p. below_picture p.0) x.pictures t.0,
        (t.1.0, (name_later x.film t.1.1.0, t.1.1.1)),
      )

  pub queue_later : (q : Queue) → queue_sound n q ≡ true → queue_sound m q ≡ true
  queue_later q e =
      let f = queue_facts n q e in
      queue_sound_lem m q record { count = f.count; entries = every_so (entry_sound n) (entry_sound m) entry_later _ f.entries; behind = f.behind }

-- Numbers after serials were used.

pub serials_sound : (n : Numbers) (used : ℕ) → numbers_sound n ≡ true → too_few_serials n used ≡ false → numbers_sound (serials_used used n) ≡ true
unfolding root_of
serials_sound n used e f =
    let t = numbers_facts n e in
    let h = (counted n e).serials in
    numbers_sound_lem (serials_used used n) record {
      used = t.used;
      root = t.root;
      behind = t.behind;
      serial = between_holds 1 none_left (n.serial + used) (omega arith) (ltb-false none_left (n.serial + used) f);
      picture = t.picture;
    }

pub serials_later : (n : Numbers) (used : ℕ) → Later n (serials_used used n)
unfolding root_of
serials_later n used = record { root = refl; serials = omega arith; pictures = omega arith }
