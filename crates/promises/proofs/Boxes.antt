-- A box set keeps the rules of the records.
-- Assumes nothing.
use Prim.Native.Nat.{ℕ, ◌+◌, ◌<◌}
use mathlib.Core.Path.{◌≡◌, refl, sym, ap, ◌∙◌}
use mathlib.Core.Bool.{Bool, true, false}
use mathlib.Core.List.{List}
use native.Mathlib.Omega.{arith}
use lib.Dec.{leb, ltb}
use lib.ListN.{length, get_or, set, take, length-set}
use lib.Seq.{take-set-lt, drop-set-lt, get_or-take}
use borrow.Author.Tests.{lt-ltb, eqb-false}
use Rattle.choice.specs.Pick.{both}
use Rattle.choice.proofs.Picks.{Kept, both_true}
use Rattle.rules.specs.Bounds.{none_left}
use Rattle.rules.specs.declared.Film.{Film}
use Rattle.rules.specs.declared.ImageBox.{ImageBox}
use Rattle.rules.specs.declared.Session.{Session}
use Rattle.rules.specs.declared.Shelf.{Shelf}
use Rattle.rules.specs.declared.Numbers.{Numbers}
use Rattle.rules.specs.declared.Core.{Core}
use Rattle.rules.specs.Lists.{every}
use Rattle.rules.specs.Values.{no_bytes, blank, is_us, us_in, polarities, code_in}
use Rattle.rules.specs.Records.{root_of, box_count, boxes_of, films_of, no_box, no_film, shelved, picture_used, sessions_of}
use Rattle.rules.specs.declared.Image.{Image}
use Rattle.rules.specs.declared.Image.TheVariants.{Keeps, Erases, TooMany, Fills}
use Rattle.rules.specs.Attributes.{Listing, look, value_of, or_kept, attribute_rules, code_allowed, us, image_in, is_fill, box_standings, picture_after, box_with}
use Rattle.rules.specs.Effects.{no_picture_left, film_at, with_boxes, box_set_in, numbers_after, box_set}
use Rattle.rules.specs.Checks.{box_rules}
use Rattle.rules.specs.Sound.{between, flag, numbers_sound, box_sound, film_sound, shelf_sound, uids_apart, core_sound, has_session}
use Rattle.promises.proofs.ListLaws.{every_set, every_at, films_shelved}
use Rattle.promises.proofs.Facts.{between_true, between_holds, core_facts, core_sound_lem, numbers_facts, numbers_sound_lem, counted, shelf_facts, shelved_sound, films_few, box_facts, box_sound_lem, film_facts, film_sound_lem}
use Rattle.promises.proofs.Later.{Later, sessions_later, film_later, films_later, queue_later}
use Rattle.promises.proofs.Standings.{AllFine, kept_fine, mandatory_fine, or_kept_lem, code_given}
use Rattle.promises.proofs.Films.{uids_set}

-- What the attributes of a box say.

position_given : (boxes : ℕ) (l : Listing) → AllFine (box_standings boxes l) → between 1 boxes (us l 0x2020_0010) ≡ true
unfolding box_standings
position_given boxes l t =
    (both_true (is_us (value_of l 0x2020_0010)) (between 1 boxes (us l 0x2020_0010))
    (mandatory_fine no_bytes (λ v. both (is_us v) (between 1 boxes (us_in v))) l (look l 0x2020_0010) t.0)).1

polarity_given : (boxes : ℕ) (l : Listing) (old : ℕ) → AllFine (box_standings boxes l) → flag old ≡ true → flag (or_kept blank l 0x2020_0020 (code_in polarities) old) ≡ true
unfolding box_standings
polarity_given boxes l old t h = or_kept_lem (λ p. leb p 1 ≡ true) (code_allowed polarities) l 0x2020_0020 (code_in polarities) old t.1.0 (code_given polarities 1 (omega arith)) h

-- Picture numbers.

picture_below : (image : Image) (n : Numbers) (old : ℕ) → numbers_sound n ≡ true → ltb old n.picture ≡ true → ltb (picture_after n.picture image old) (numbers_after image n).picture ≡ true
picture_below Keeps n old e f = f
picture_below Erases n old e f =
    let h = (counted n e).pictures in
    lt-ltb 0 n.picture (omega arith)
picture_below TooMany n old e f = f
picture_below (Fills inside) n old e f = lt-ltb n.picture (n.picture + 1) (omega arith)

picture_used_lem : (n : Numbers) → numbers_sound n ≡ true → no_picture_left n ≡ false → numbers_sound (picture_used n) ≡ true
unfolding root_of
picture_used_lem n e f =
    let t = numbers_facts n e in
    let h = between_true 1 none_left n.picture t.picture in
    let k : n.picture ≡ none_left → ⊥ = eqb-false n.picture none_left f in
    numbers_sound_lem (picture_used n) record {
      used = t.used;
      root = t.root;
      behind = t.behind;
      serial = t.serial;
      picture = between_holds 1 none_left (n.picture + 1) (omega arith) (omega (arith, h.1));
    }

numbers_after_lem : (image : Image) (n : Numbers) → numbers_sound n ≡ true → both (is_fill image) (no_picture_left n) ≡ false → numbers_sound (numbers_after image n) ≡ true
numbers_after_lem Keeps n e f = e
numbers_after_lem Erases n e f = e
numbers_after_lem TooMany n e f = e
numbers_after_lem (Fills inside) n e f = picture_used_lem n e f

later_after : (image : Image) (n : Numbers) → Later n (numbers_after image n)
unfolding root_of
later_after Keeps n = record { root = refl; serials = omega arith; pictures = omega arith }
later_after Erases n = record { root = refl; serials = omega arith; pictures = omega arith }
later_after TooMany n = record { root = refl; serials = omega arith; pictures = omega arith }
later_after (Fills inside) n = record { root = refl; serials = omega arith; pictures = omega arith }

-- The box.

box_with_lem : (boxes : ℕ) (n : Numbers) (l : Listing) (b : ImageBox) → numbers_sound n ≡ true → Kept (attribute_rules (box_standings boxes l)) → box_sound boxes n b ≡ true → box_sound boxes (numbers_after (image_in l) n) (box_with n.picture l b) ≡ true
unfolding box_with
box_with_lem boxes n l b e r f =
    let t = box_facts boxes n b f in
    box_sound_lem boxes (numbers_after (image_in l) n) (box_with n.picture l b)
    (position_given boxes l (kept_fine (box_standings boxes l) r))
    (polarity_given boxes l b.polarity (kept_fine (box_standings boxes l) r) t.1)
    (picture_below (image_in l) n b.picture.0 e t.2)

-- A list of boxes, of which the first `count` are the film's.

set_boxes : (count : ℕ) (test other : ImageBox → Bool) (boxes : List ImageBox) (j : ℕ) (b : ImageBox) → j < count → every test (take count boxes) ≡ true → every other (take count boxes) ≡ true → (test (get_or boxes j no_box) ≡ true → other b ≡ true) → every other (take count (set boxes j b)) ≡ true
set_boxes count test other boxes j b h e f g =
    rw (take-set-lt count boxes j b h)
    (every_set other (take count boxes) j b f
    (λ i. g (ap test (sym (get_or-take count boxes j no_box h)) ∙ every_at test (take count boxes) j no_box e i)))

film_with_lem : (n : Numbers) (j : ℕ) (l : Listing) (f : Film) → numbers_sound n ≡ true → Kept (attribute_rules (box_standings (box_count f.layout) l)) → j < box_count f.layout → film_sound n f ≡ true → film_sound (numbers_after (image_in l) n) (box_set_in n.picture j l f) ≡ true
unfolding boxes_of
film_with_lem n j l f e r h s =
    let m = numbers_after (image_in l) n in
    let count = box_count f.layout in
    let old = film_facts n f s in
    let t = film_facts m f (film_later n m (later_after (image_in l) n) f s) in
    film_sound_lem m (box_set_in n.picture j l f) record {
      name = t.name;
      layout = t.layout;
      orientation = t.orientation;
      magnification = t.magnification;
      first = t.first;
      last = t.last;
      boxes =
          set_boxes count (box_sound count n) (box_sound count m) f.boxes j (box_with n.picture l (get_or f.boxes j no_box)) h old.boxes t.boxes
          (box_with_lem count n l (get_or f.boxes j no_box) e r);
      behind = rw (drop-set-lt count f.boxes j (box_with n.picture l (get_or f.boxes j no_box)) h) t.behind;
    }

-- The films.

shelf_set : (n m : Numbers) (sessions : List Session) (shelf : Shelf) (i : ℕ) (f : Film) → Later n m → f.session ≡ (get_or (films_of shelf) i no_film).session → film_sound m f ≡ true → shelf_sound n sessions shelf ≡ true → shelf_sound m sessions (shelved (set (films_of shelf) i f)) ≡ true
shelf_set n m sessions shelf i f later own e g =
    let t = shelf_facts n sessions shelf g in
    shelved_sound m sessions (set (films_of shelf) i f)
    (rw (length-set (films_of shelf) i f) (films_few n sessions shelf g))
    (every_set (has_session sessions) (films_of shelf) i f t.owned (λ h. rw own (every_at (has_session sessions) (films_of shelf) i no_film t.owned h)))
    (every_set (film_sound m) (films_of shelf) i f (films_later n m later (films_of shelf) t.films) (λ h. e))

pub box_set_sound : (k : Core) (i j : ℕ) (l : Listing) → core_sound k ≡ true → Kept (box_rules k i l) → i < length (films_of k.shelf) → j < box_count (film_at k i).layout → core_sound (box_set k i j l) ≡ true
unfolding box_set
box_set_sound k i j l e r h g =
    let c = core_facts k e in
    let n = k.numbers in
    let m = numbers_after (image_in l) n in
    let f = film_at k i in
    let boxes = set f.boxes j (box_with n.picture l (get_or f.boxes j no_box)) in
    let later = later_after (image_in l) n in
    let t = shelf_facts n (sessions_of k) k.shelf c.shelf in
    core_sound_lem (box_set k i j l) record {
      numbers = numbers_after_lem (image_in l) n c.numbers r.1.1.1.0;
      sessions = sessions_later n m later (sessions_of k) c.sessions;
      shelf =
          shelf_set n m (sessions_of k) k.shelf i (with_boxes boxes f) later refl
          (film_with_lem n j l f c.numbers (r.0, (r.1.0, (r.1.1.0, tt))) g (every_at (film_sound n) (films_of k.shelf) i no_film t.films h))
          c.shelf;
      queue = queue_later n m later k.queue c.queue;
      uids = ap (uids_apart (sessions_of k)) (films_shelved (set (films_of k.shelf) i (with_boxes boxes f))) ∙ uids_set (sessions_of k) (films_of k.shelf) i (with_boxes boxes f) refl refl refl c.uids;
      opened = c.opened;
    }
