-- Places past the count are blank: a shelf is what its films make, and a queue what its entries make.
-- Assumes nothing.
use Prim.Native.Nat.{ℕ, ◌-◌, ◌≤◌}
use mathlib.Core.Path.{◌≡◌, refl, ap, ◌∙◌}
use mathlib.Core.Bool.{Bool, true}
use mathlib.Core.List.{List, [], ◌∷◌}
use native.Mathlib.Omega.{arith}
use lib.Dec.{eqb}
use lib.ListN.{length, take, drop, replicate, length-drop, take-append-drop}
use lib.Seq.{length-take-le}
use borrow.Author.Tests.{leb-true, eqb-true}
use Rattle.rules.specs.declared.Picture.{Picture}
use Rattle.rules.specs.declared.Name.{Name}
use Rattle.rules.specs.declared.ImageBox.{ImageBox}
use Rattle.rules.specs.declared.Film.{Film}
use Rattle.rules.specs.declared.Shelf.{Shelf}
use Rattle.rules.specs.declared.Entry.{Entry}
use Rattle.rules.specs.declared.Queue.{Queue}
use Rattle.rules.specs.declared.Core.{Core}
use Rattle.rules.specs.Bounds.{most_films, most_boxes, most_entries}
use Rattle.rules.specs.Lists.{every, filled_to}
use Rattle.rules.specs.Records.{serial, picture, no_name, no_box, no_film, films_of, shelved, no_entry, entries_of, queued, sessions_of}
use Rattle.rules.specs.Sound.{zeros, name_blank, box_blank, film_blank, entry_blank, core_sound}
use Rattle.promises.proofs.ListLaws.{Each, each_drop, each_told, each_so, all_true}
use Rattle.promises.proofs.Sized.{NameSized, FilmSized, EntrySized, Sized}
use Rattle.promises.proofs.Facts.{core_facts, shelf_facts, queue_facts}

-- Lists of one element.

module _ {A : Type 0} (blank : A) where
  all_alike : (n : ℕ) (xs : List A) → length xs ≡ n → Each (λ (x : A). x ≡ blank) xs → xs ≡ replicate n blank
  all_alike n [] e h = rw (← e)
  all_alike n (x ∷ xs) e h = rw (← e, h.0, ← (all_alike (length xs) xs refl h.1))

-- places that hold their front, and blanks behind it
record Tidy {A : Type 0} (m : ℕ) (blank : A) (count : ℕ) (places : List A) : Type 0 where
  counted : length (take count places) ≡ count
  filled : filled_to m blank (take count places) ≡ places

-- so they are where what is behind passes a test that blanks alone pass
module _ {A : Type 0} (blank : A) (test : A → Bool) (P : A → Type 0) (same : (x : A) → test x ≡ true → P x → x ≡ blank) where
  tidied : (m n : ℕ) (xs : List A) → n ≤ m → length xs ≡ m → Each P xs → every test (drop n xs) ≡ true → Tidy m blank n xs
  tidied m n xs h l s e =
      let front : length (take n xs) ≡ n = length-take-le n xs (omega arith) in
      let blanks = each_so P test (λ (x : A). x ≡ blank) same (drop n xs) e (each_drop P n xs s) in
      record {
        counted = front;
        filled = rw (front, ← (all_alike blank (m - n) (drop n xs) (length-drop n xs ∙ rw l) blanks)) (take-append-drop n xs);
      }

each_zero : (xs : List ℕ) → zeros xs ≡ true → Each (λ (n : ℕ). n ≡ 0) xs
each_zero xs e = each_told (λ (n : ℕ). n ≡ 0) (λ (n : ℕ). eqb n 0) (λ n h. eqb-true n 0 h) xs e

all_zero : (n : ℕ) (xs : List ℕ) → length xs ≡ n → zeros xs ≡ true → xs ≡ replicate n 0
all_zero n xs l e = all_alike 0 n xs l (each_zero xs e)

-- What is blank is nothing.

blank_name : (name : Name) → name_blank name ≡ true → NameSized name → name ≡ no_name
blank_name name e s =
    let t = all_true _ e in
    let made = eqb-true name.made.0 0 t.0 in
    let used = eqb-true name.used 0 t.1.0 in
    let text = all_zero 64 name.text s t.1.1.0 in
    let by-fields : ◌≡◌ {A = Name} (record { made = serial name.made.0; used = name.used; text = name.text }) no_name = cc in
    by-fields

blank_box : (b : ImageBox) → box_blank b ≡ true → b ≡ no_box
blank_box b e =
    let numbers = each_zero _ e in
    let by-fields : ◌≡◌ {A = ImageBox} (record { position = b.position; polarity = b.polarity; picture = picture b.picture.0 }) no_box = cc in
    by-fields

blank_film : (f : Film) → film_blank f ≡ true → FilmSized f → f ≡ no_film
blank_film f e s =
    let t = all_true _ e in
    let numbers = each_zero _ t.1.0 in
    let name = blank_name f.name t.0 s.name in
    let counts = all_zero 6 f.layout.counts s.counts t.1.1.0 in
    let boxes = all_alike no_box most_boxes f.boxes s.boxes (each_told (λ (b : ImageBox). b ≡ no_box) box_blank blank_box f.boxes t.1.1.1.0) in
    let by-fields : ◌≡◌ {A = Film} (record { name = f.name; session = f.session; layout = record { kind = f.layout.kind; lines = f.layout.lines; counts = f.layout.counts }; orientation = f.orientation; magnification = f.magnification; first = serial f.first.0; boxes = f.boxes }) no_film = cc in
    by-fields

no_picture : (p : Picture) → eqb p.0 0 ≡ true → p ≡ picture 0
no_picture p e = ap picture (eqb-true p.0 0 e)

blank_entry : (e : Entry) → entry_blank e ≡ true → EntrySized e → e ≡ no_entry
blank_entry e h s =
    let t = all_true _ h in
    let numbers = each_zero _ t.1.0 in
    let pictures = all_alike (picture 0) most_boxes e.pictures s.pictures (each_told (λ (p : Picture). p ≡ picture 0) (λ (p : Picture). eqb p.0 0) no_picture e.pictures t.0) in
    let film = blank_name e.film t.1.1.0 s.film in
    let by-fields : ◌≡◌ {A = Entry} (record { pictures = e.pictures; ticket = e.ticket; copies = e.copies; film = e.film }) no_entry = cc in
    by-fields

-- The shelf.

pub shelf_few : (k : Core) → core_sound k ≡ true → k.shelf.count ≤ most_films
shelf_few k e = leb-true k.shelf.count most_films (shelf_facts k.numbers (sessions_of k) k.shelf (core_facts k e).shelf).count

shelf_of_lem : (count : ℕ) (places : List Film) → Tidy most_films no_film count places → ◌≡◌ {A = Shelf} (shelved (take count places)) (record { count = count; films = places })
unfolding shelved
shelf_of_lem count places t = rw (t.filled, t.counted)

pub tidy_shelf : (k : Core) → core_sound k ≡ true → Sized k → shelved (films_of k.shelf) ≡ k.shelf
unfolding films_of
tidy_shelf k e s =
    let f = shelf_facts k.numbers (sessions_of k) k.shelf (core_facts k e).shelf in
    shelf_of_lem k.shelf.count k.shelf.films
    (tidied no_film film_blank FilmSized blank_film most_films k.shelf.count k.shelf.films (shelf_few k e) s.shelf.films s.shelf.each f.behind)

-- The queue.

pub queue_few : (k : Core) → core_sound k ≡ true → k.queue.count ≤ most_entries
queue_few k e = leb-true k.queue.count most_entries (queue_facts k.numbers k.queue (core_facts k e).queue).count

queue_of_lem : (count : ℕ) (places : List Entry) → Tidy most_entries no_entry count places → ◌≡◌ {A = Queue} (queued (take count places)) (record { count = count; entries = places })
unfolding queued
queue_of_lem count places t = rw (t.filled, t.counted)

pub tidy_queue : (k : Core) → core_sound k ≡ true → Sized k → queued (entries_of k.queue) ≡ k.queue
unfolding entries_of
tidy_queue k e s =
    let f = queue_facts k.numbers k.queue (core_facts k e).queue in
    queue_of_lem k.queue.count k.queue.entries
    (tidied no_entry entry_blank EntrySized blank_entry most_entries k.queue.count k.queue.entries (queue_few k e) s.queue.entries s.queue.each f.behind)
