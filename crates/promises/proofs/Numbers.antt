-- Serials and picture numbers: they only grow, so that none is used twice.
-- Assumes nothing.
use Prim.Native.Nat.{ℕ, ◌+◌, ◌<◌, ◌≤◌}
use mathlib.Core.Path.{◌≡◌, refl}
use mathlib.Core.Bool.{true, false}
use mathlib.Core.List.{List}
use native.Mathlib.Omega.{arith}
use lib.Dec.{eqb}
use lib.ListN.{length, get_or, set}
use lib.Seq.{get_or-set_same}
use borrow.Author.Tests.{ltb-false, eqb-false, eq-eqb}
use Rattle.choice.proofs.Picks.{Kept, pick_cases, both_second, clash}
use Rattle.strike.specs.Service.{Call, start}
use Rattle.strike.specs.Machine.{Records, step}
use Rattle.rules.specs.declared.Numbers.{Numbers}
use Rattle.rules.specs.declared.Core.{Core}
use Rattle.rules.specs.Bounds.{none_left}
use Rattle.rules.specs.declared.Instance.TheVariants.{TheBox}
use Rattle.rules.specs.Records.{box_count, films_of, no_film, no_box, picture_used, named, sessions_of, the_session}
use Rattle.rules.specs.declared.Image.{Image}
use Rattle.rules.specs.declared.Image.TheVariants.{Keeps, Erases, TooMany, Fills}
use Rattle.rules.specs.Attributes.{Listing, image_in, is_fill, box_with, picture_after, film_with}
use Rattle.rules.specs.Effects.{own_serials, name_from, no_picture_left, numbers_after, session_created, new_film, film_serials, film_created, box_set, box_set_in, film_at}
use Rattle.rules.specs.Checks.{new_session_rules, new_film_rules, box_rules}
use Rattle.rules.specs.Sound.{film_sound, core_sound}
use Rattle.rules.specs.Calls.{Starting, Opening, handed, opened, closed, taken, printing}
use Rattle.promises.proofs.ListLaws.{films_shelved, every_at}
use Rattle.promises.proofs.Facts.{core_facts, shelf_facts, film_facts}
use Rattle.promises.proofs.Layouts.{boxes_most}
use Rattle.promises.proofs.Instances.{named_box}
use Rattle.promises.proofs.Decided.{After, the_effects}
use Rattle.promises.proofs.Steps.{AfterCalls, step_kept}

-- next numbers are never lower
pub record Grown (before after : Numbers) : Type 0 where
  pub serials : before.serial ≤ after.serial
  pub pictures : before.picture ≤ after.picture

same_numbers : (n : Numbers) → Grown n n
same_numbers n = record { serials = omega arith; pictures = omega arith }

-- a picture number is used where a box is filled, and by nothing else
box_numbers : (image : Image) (n : Numbers) → Grown n (numbers_after image n)
box_numbers image n =
    pick_cases (Grown n) (is_fill image) (picture_used n) n
    (λ e. record { serials = omega arith; pictures = omega arith })
    (λ e. same_numbers n)

module _ (k : Core) where
  after_grown : After (λ k'. Grown k.numbers k'.numbers) k
  unfolding the_effects
  after_grown = record {
    kept = same_numbers k.numbers;
    new_session = λ c sent l a b. record { serials = omega arith; pictures = omega arith };
    new_film = λ c sent l a b. record { serials = omega arith; pictures = omega arith };
    set_session = λ uid l e b. same_numbers k.numbers;
    set_film = λ uid i l e b. same_numbers k.numbers;
    set_box = λ uid i j l e b. box_numbers (image_in l) k.numbers;
    print_session = λ uid e b. record { serials = omega arith; pictures = omega arith };
    print_film = λ uid i e b. record { serials = omega arith; pictures = omega arith };
    no_session = λ uid e. same_numbers k.numbers;
    no_film = λ uid i e. same_numbers k.numbers;
  }

  -- nor do the other calls but start
  pub opened_numbers : (h : Opening) → (opened k h).numbers ≡ k.numbers
  unfolding opened
  opened_numbers h = refl

  pub closed_numbers : (closed k).numbers ≡ k.numbers
  unfolding closed
  closed_numbers = refl

  pub taken_numbers : (taken k).0.numbers ≡ k.numbers
  unfolding taken
  taken_numbers = refl

  each_grown : AfterCalls (λ k'. Grown k.numbers k'.numbers) k
  each_grown = record {
    open_kept = λ h r. rw (opened_numbers h) (same_numbers k.numbers);
    close_kept = rw closed_numbers (same_numbers k.numbers);
    take_kept = rw taken_numbers (same_numbers k.numbers);
    request_kept = after_grown;
  }

-- a serial that is taken: not below the next one before, below the next one after, and in 32 bits
pub record Taken (before after : Numbers) (n : ℕ) : Type 0 where
  pub unused : before.serial ≤ n
  pub below : n < after.serial
  pub small : n < 4294967296

module _ (k : Core) (sent : List ℕ) (l : Listing) where
  -- the serial of a session without a sent UID
  pub session_serial : length sent ≡ 0 → Kept (new_session_rules k sent l) → Taken k.numbers (session_created k sent l).numbers (the_session (session_created k sent l)).name.made.0
  unfolding session_created
  session_serial e h =
      let enough = ltb-false none_left (k.numbers.serial + own_serials sent) h.1.1.1.1.0 in
      let z : eqb (length sent) 0 ≡ true = eq-eqb (length sent) 0 e in
      let own : own_serials sent ≡ 1 = rw z in
      let made : (name_from k.numbers sent).made.0 ≡ k.numbers.serial = rw z in
      record { unused = omega arith; below = omega arith; small = omega arith }

  film_enough : Kept (new_film_rules k sent l) → k.numbers.serial + film_serials sent l ≤ none_left
  film_enough h = ltb-false none_left (k.numbers.serial + film_serials sent l) h.1.1.1.1.0

  -- the serial of a film without a sent UID
  pub film_serial : length sent ≡ 0 → Kept (new_film_rules k sent l) → Taken k.numbers (film_created k sent l).numbers (new_film k sent l).name.made.0
  unfolding film_created new_film film_with
  film_serial e h =
      let enough = film_enough h in
      let z : eqb (length sent) 0 ≡ true = eq-eqb (length sent) 0 e in
      let own : own_serials sent ≡ 1 = rw z in
      let made : (name_from k.numbers sent).made.0 ≡ k.numbers.serial = rw z in
      record { unused = omega arith; below = omega arith; small = omega arith }

  -- the serials of its boxes, which come after the film's own
  pub box_serials_lem : Kept (new_film_rules k sent l) → (j : ℕ) → j < box_count (new_film k sent l).layout → Taken k.numbers (film_created k sent l).numbers ((new_film k sent l).first.0 + j)
  unfolding film_created new_film film_with
  box_serials_lem h j i =
      let enough = film_enough h in
      record { unused = omega arith; below = omega arith; small = omega arith }

  pub box_serials_own : length sent ≡ 0 → (new_film k sent l).name.made.0 < (new_film k sent l).first.0
  unfolding new_film film_with
  box_serials_own e =
      let z : eqb (length sent) 0 ≡ true = eq-eqb (length sent) 0 e in
      let own : own_serials sent ≡ 1 = rw z in
      let made : (name_from k.numbers sent).made.0 ≡ k.numbers.serial = rw z in
      omega arith

-- the picture of an image that fills
fill_picture : (next old : ℕ) (image : Image) → is_fill image ≡ true → picture_after next image old ≡ next
fill_picture next old Keeps e = absurd (clash refl e)
fill_picture next old Erases e = absurd (clash refl e)
fill_picture next old TooMany e = absurd (clash refl e)
fill_picture next old (Fills inside) e = refl

module _ (k : Core) (i j : ℕ) (l : Listing) (fill : is_fill (image_in l) ≡ true) where
  -- a box that is filled gets the picture number that was next
  pub box_picture : i < length (films_of k.shelf) → j < length (film_at k i).boxes → (get_or (film_at (box_set k i j l) i).boxes j no_box).picture.0 ≡ k.numbers.picture
  unfolding box_set box_with
  box_picture h g =
      let f = box_set_in k.numbers.picture j l (film_at k i) in
      let a : film_at (box_set k i j l) i ≡ f = rw (films_shelved (set (films_of k.shelf) i f)) (get_or-set_same (films_of k.shelf) i f no_film h) in
      rw (a, get_or-set_same (film_at k i).boxes j (box_with k.numbers.picture l (get_or (film_at k i).boxes j no_box)) no_box g) (fill_picture k.numbers.picture (get_or (film_at k i).boxes j no_box).picture.0 (image_in l) fill)

  -- and the next is one more
  pub next_picture : (box_set k i j l).numbers.picture ≡ k.numbers.picture + 1
  unfolding box_set
  next_picture = rw fill

  -- the number that is taken fits 32 bits
  pub picture_small : k.numbers.picture ≤ none_left → Kept (box_rules k i l) → k.numbers.picture < 4294967296
  picture_small s h =
      let left = eqb-false k.numbers.picture none_left (both_second (is_fill (image_in l)) (no_picture_left k.numbers) h.1.1.1.0 fill) in
      omega arith

-- so the box that a UID names, where its film has room for 36 boxes, as its bytes have
pub filled_picture : (k : Core) (uid : List ℕ) (i j : ℕ) (l : Listing) → core_sound k ≡ true → length (film_at k i).boxes ≡ 36 → named k uid ≡ TheBox i j → is_fill (image_in l) ≡ true → (get_or (film_at (box_set k i j l) i).boxes j no_box).picture.0 ≡ k.numbers.picture
filled_picture k uid i j l e room b fill =
    let t = named_box k uid i j b in
    let film = every_at (film_sound k.numbers) (films_of k.shelf) i no_film (shelf_facts k.numbers (sessions_of k) k.shelf (core_facts k e).shelf).films t.0 in
    let most = boxes_most (film_at k i).layout (film_facts k.numbers (film_at k i) film).layout in
    let place = t.1 in
    box_picture k i j l fill t.0 (omega arith)

-- nothing else uses a picture number
pub box_kept_numbers : (k : Core) (i j : ℕ) (l : Listing) → is_fill (image_in l) ≡ false → (box_set k i j l).numbers ≡ k.numbers
unfolding box_set
box_kept_numbers k i j l e = rw e

-- None is used twice.

-- a serial that is taken later is another
pub serial_once : (a b c d : Numbers) (x y : ℕ) → Taken a b x → Grown b c → Taken c d y → x < y
serial_once a b c d x y f g h = omega (arith, f.below, g.serials, h.unused)

-- the number of a picture that is filled in later is another
pub picture_once : (k : Core) (i j : ℕ) (l : Listing) → is_fill (image_in l) ≡ true → (later : Numbers) → Grown (box_set k i j l).numbers later → k.numbers.picture < later.picture
picture_once k i j l fill later g = omega (arith, next_picture k i j l fill, g.pictures)

-- any call but start
pub call_grown : (s : Records Core) (c : Call handed) → ((h : Starting) → c ≡ start h → ⊥) → Grown s.core.numbers (step printing s c).records.core.numbers
call_grown s c f = step_kept (λ k. Grown s.core.numbers k.numbers) s (each_grown s.core) c (λ h e r. absurd (f h e))
