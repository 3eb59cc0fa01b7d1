-- The entry that a take writes is read by place as it was meant, from its own bytes and from a lent buffer that it is laid over.
-- Assumes nothing.
use Prim.Native.Nat.{ℕ, zero, suc, ◌+◌, ◌*◌, ◌-◌, ◌<◌, ◌≤◌}
use mathlib.Core.Path.{◌≡◌, refl, sym, ap, ◌∙◌, subst}
use mathlib.Core.Bool.{Bool, true, false}
use mathlib.Core.List.{List, [], ◌∷◌, ◌++◌}
use native.Mathlib.Omega.{arith}
use lib.Dec.{eqb, ltb}
use lib.ListN.{length, get_or, drop, replicate, length-append}
use lib.Seq.{get_or-take, get_or-drop}
use borrow.Author.Tests.{ltb-true, ltb-false, ne_eqb}
use Rattle.choice.specs.Pick.{pick}
use Rattle.octets.specs.Octets.{number_at, octets, part, laid}
use Rattle.octets.proofs.Laid.{Stands, laid_stands, stands_first, stands_second}
use Rattle.octets.proofs.Numbers.{octets_length, number_back}
use Rattle.uids.specs.Uids.{is_uid}
use Rattle.uids.proofs.Length.{uid_short}
use Rattle.uids.proofs.Padding.{uid_solid}
use Rattle.rules.specs.Bounds.{most_boxes, ticket_place, copies_place, uid_place, entry_room, none_left}
use Rattle.rules.specs.declared.Picture.{Picture}
use Rattle.rules.specs.declared.Entry.{Entry}
use Rattle.rules.specs.declared.Numbers.{Numbers}
use Rattle.rules.specs.declared.Core.{Core}
use Rattle.rules.specs.Lists.{filled_to}
use Rattle.rules.specs.Records.{picture, uid_of, no_entry, entries_of}
use Rattle.rules.specs.Sound.{entry_sound, core_sound}
use Rattle.rules.specs.Layout.{picture_format, entry_format}
use Rattle.rules.specs.Calls.{picture_bytes, entry_bytes}
use Rattle.promises.proofs.ListLaws.{all_true, every_at, each_at, each_take, filled_length}
use Rattle.promises.proofs.Facts.{between_true, core_facts, numbers_facts, name_uid, queue_facts}
use Rattle.promises.proofs.Packed.{from_start}
use Rattle.promises.proofs.Sized.{EntrySized, Sized}
use Rattle.promises.proofs.Good.{good_entry}
use Rattle.promises.proofs.Tickets.{Ticketed, tickets_differ}

-- the bytes before the first zero
unfoldable pub up_to_zero : List ℕ → List ℕ
up_to_zero [] = []
up_to_zero (c ∷ s) = pick (eqb c 0) [] (c ∷ up_to_zero s)

-- What the bytes of an entry mean, read by place: 36 picture numbers of 4 bytes, ticket and copies of 2, and the film's UID, then zeros.
pub record EntryMeans (s : List ℕ) (n : Numbers) (e : Entry) : Type 0 where
  pub pictures : (i : ℕ) → i < most_boxes → number_at 4 s (4 * i) ≡ (get_or e.pictures i (picture 0)).0
  pub ticket : number_at 2 s ticket_place ≡ e.ticket
  pub copies : number_at 2 s copies_place ≡ e.copies
  pub uid : up_to_zero (part s uid_place entry_room) ≡ uid_of n e.film
  pub behind : (i : ℕ) → uid_place + length (uid_of n e.film) ≤ i → i < entry_room → get_or s i 0 ≡ 0

-- The pictures.

pub pictures_length : (ps : List Picture) → length (picture_bytes ps) ≡ 4 * length ps
unfolding picture_bytes
pictures_length [] = refl
pictures_length (p ∷ ps) = simp (length-append, octets_length, pictures_length ps) (omega arith)

picture_stands : (ps : List Picture) (s : List ℕ) (at i : ℕ) → i < length ps → Stands s at (picture_bytes ps) → Stands s (at + 4 * i) (octets 4 (get_or ps i (picture 0)).0)
unfolding picture_bytes octets
picture_stands [] s at i h e = absurd (omega arith)
picture_stands (p ∷ ps) s at zero h e =
    let z : at ≡ at + 4 * 0 = omega arith in
    subst (λ (x : ℕ). Stands s x (octets 4 p.0)) z (stands_first s at (octets 4 p.0) (picture_bytes ps) e)
picture_stands (p ∷ ps) s at (suc i) h e =
    let z : at + 4 + 4 * i ≡ at + 4 * suc i = omega arith in
    subst (λ (x : ℕ). Stands s x (octets 4 (get_or ps i (picture 0)).0)) z
    (picture_stands ps s (at + 4) i (omega arith) (stands_second s at (octets 4 p.0) (picture_bytes ps) e))

-- The UID.

zero_at : (n i : ℕ) → ◌≡◌ {A = ℕ} (get_or (replicate n 0) i 0) 0
zero_at zero i = refl
zero_at (suc n) zero = refl
zero_at (suc n) (suc i) = zero_at n i

zero_behind : (u : List ℕ) (n i : ℕ) → length u ≤ i → get_or (u ++ replicate n 0) i 0 ≡ 0
zero_behind [] n i h = zero_at n i
zero_behind (c ∷ u) n zero h = absurd (omega arith)
zero_behind (c ∷ u) n (suc i) h = zero_behind u n i (omega arith)

up_to_zeros : (u : List ℕ) (n : ℕ) → ((i : ℕ) → i < length u → get_or u i 0 ≡ 0 → ⊥) → up_to_zero (u ++ replicate n 0) ≡ u
unfolding up_to_zero
up_to_zeros [] zero f = refl
up_to_zeros [] (suc n) f = refl
up_to_zeros (c ∷ u) n f = rw (ne_eqb c 0 (f 0 (omega arith)), up_to_zeros u n (λ i h. f (suc i) (omega arith)))

-- Numbers that fit their widths, in as many pictures as there are boxes, and a UID.

pub record EntryFits (n : Numbers) (e : Entry) : Type 0 where
  pub pictures : length e.pictures ≡ most_boxes
  pub each : (i : ℕ) → i < most_boxes → (get_or e.pictures i (picture 0)).0 < 4294967296
  pub ticket : e.ticket < 65536
  pub copies : e.copies < 65536
  pub uid : is_uid (uid_of n e.film) ≡ true

module _ (n : Numbers) (e : Entry) (fits : EntryFits n e) where
  fitting_length : length (entry_bytes n e) ≡ entry_room
  unfolding entry_bytes
  fitting_length =
      let u = uid_of n e.film in
      let name = filled_to 64 0 u in
      let c = octets 2 e.copies in
      let t = octets 2 e.ticket in
      let p = picture_bytes e.pictures in
      omega (
        arith,
        length-append p (t ++ (c ++ name)),
        length-append t (c ++ name),
        length-append c name,
        pictures_length e.pictures,
        octets_length 2 e.ticket,
        octets_length 2 e.copies,
        filled_length 64 0 u (uid_short u fits.uid),
        fits.pictures,
      )

  -- Where its numbers fit their widths, an entry is read as it was meant from whatever list begins with its bytes.
  pub entry_reads : (s : List ℕ) → Stands s 0 (entry_bytes n e) → EntryMeans s n e
  unfolding entry_bytes octets
  entry_reads s h =
      let u = uid_of n e.film in
      let name = filled_to 64 0 u in
      let c = octets 2 e.copies in
      let t = octets 2 e.ticket in
      let p = picture_bytes e.pictures in
      let place : 0 + length p ≡ ticket_place = omega (arith, pictures_length e.pictures, fits.pictures) in
      let after-pictures : Stands s ticket_place (t ++ (c ++ name)) = subst (λ (at : ℕ). Stands s at (t ++ (c ++ name))) place (stands_second s 0 p (t ++ (c ++ name)) h) in
      let after-ticket : Stands s copies_place (c ++ name) = stands_second s ticket_place t (c ++ name) after-pictures in
      let size = filled_length 64 0 u (uid_short u fits.uid) in
      let named : part s uid_place entry_room ≡ name = subst (λ (z : ℕ). part s uid_place (uid_place + z) ≡ name) size (stands_second s copies_place c name after-ticket) in
      record {
        pictures = λ i k. number_back 4 _ s (4 * i) (fits.each i k) (picture_at_lem i k (stands_first s 0 p (t ++ (c ++ name)) h));
        ticket = number_back 2 e.ticket s ticket_place fits.ticket (stands_first s ticket_place t (c ++ name) after-pictures);
        copies = number_back 2 e.copies s copies_place fits.copies (stands_first s copies_place c name after-ticket);
        uid = ap up_to_zero named ∙ up_to_zeros u (64 - length u) (uid_solid u fits.uid);
        behind = λ i k l.
            let z : uid_place + (i - uid_place) ≡ i = omega arith in
            ap (λ (x : ℕ). get_or s x 0) (sym z) ∙ sym (get_or-drop uid_place s (i - uid_place) 0) ∙ sym (get_or-take 64 (drop uid_place s) (i - uid_place) 0 (omega arith))
            ∙ ap (λ (x : List ℕ). get_or x (i - uid_place) 0) named ∙ zero_behind u (64 - length u) (i - uid_place) (omega arith);
      }
    where
      picture_at_lem : (i : ℕ) → i < most_boxes → Stands s 0 (picture_bytes e.pictures) → Stands s (4 * i) (octets 4 (get_or e.pictures i (picture 0)).0)
      picture_at_lem i k h =
          let z : 0 + 4 * i ≡ 4 * i = omega arith in
          subst (λ (at : ℕ). Stands s at (octets 4 (get_or e.pictures i (picture 0)).0)) z
          (picture_stands e.pictures s 0 i (omega (arith, fits.pictures)) h)

-- Entries of the queue.

-- the entry at a place of the queue, the oldest at 0
abbrev pub entry_at : Core → ℕ → Entry
entry_at k i = get_or (entries_of k.queue) i no_entry

module _ (k : Core) (keeps : core_sound k ≡ true) (sized : Sized k) (i : ℕ) (h : i < length (entries_of k.queue)) where
  -- the entries of records that keep their rules, with arrays of their lengths, fit
  pub entry_fits : EntryFits k.numbers (entry_at k i)
  unfolding entry_sound entries_of entry_format picture_format
  entry_fits =
      let facts = core_facts k keeps in
      let n = numbers_facts k.numbers facts.numbers in
      let kept = every_at (entry_sound k.numbers) (entries_of k.queue) i no_entry (queue_facts k.numbers k.queue facts.queue).entries h in
      let long = each_at EntrySized (entries_of k.queue) i no_entry (each_take EntrySized k.queue.count k.queue.entries sized.queue.each) h in
      let good = good_entry k.numbers (entry_at k i) (between_true 1 none_left k.numbers.serial n.serial).1 (between_true 1 none_left k.numbers.picture n.picture).1 kept long in
      let copies = good.1.1.0 in
      record {
        pictures = long.pictures;
        each = good.0.1;
        ticket = long.ticket;
        copies = omega arith;
        uid = name_uid k.numbers (entry_at k i).film facts.numbers (all_true _ kept).1.1.0;
      }

  -- An entry that is taken has so many bytes.
  pub entry_length : length (entry_bytes k.numbers (entry_at k i)) ≡ entry_room
  entry_length = fitting_length k.numbers (entry_at k i) entry_fits

  -- Each entry of the queue is read from its bytes as it was meant.
  pub entry_means : EntryMeans (entry_bytes k.numbers (entry_at k i)) k.numbers (entry_at k i)
  entry_means =
      let bytes = entry_bytes k.numbers (entry_at k i) in
      entry_reads k.numbers (entry_at k i) entry_fits bytes (from_start bytes (length bytes) refl)

  -- So it is from a lent buffer of at least so many bytes that it is laid over.
  pub entry_means_laid : (b : List ℕ) → entry_room ≤ length b → EntryMeans (laid b 0 (entry_bytes k.numbers (entry_at k i))) k.numbers (entry_at k i)
  entry_means_laid b long =
      let bytes = entry_bytes k.numbers (entry_at k i) in
      entry_reads k.numbers (entry_at k i) entry_fits (laid b 0 bytes) (laid_stands b 0 bytes (omega (arith, entry_length)))

-- Tickets.

-- Two entries in the queue have different numbers where their tickets stand.
pub ticket_bytes_differ : (k : Core) → core_sound k ≡ true → Sized k → Ticketed k → (i j : ℕ) → i < length (entries_of k.queue) → j < length (entries_of k.queue) → (i ≡ j → ⊥)
    → number_at 2 (entry_bytes k.numbers (entry_at k i)) ticket_place ≡ number_at 2 (entry_bytes k.numbers (entry_at k j)) ticket_place → ⊥
ticket_bytes_differ k keeps sized c i j h l apart same =
    let e = sym (entry_means k keeps sized i h).ticket ∙ same ∙ (entry_means k keeps sized j l).ticket in
    by (ltb i j) refl e
  where
    by : (before : Bool) → ltb i j ≡ before → (entry_at k i).ticket ≡ (entry_at k j).ticket → ⊥
    by true t e = tickets_differ k.numbers.ticket (entries_of k.queue) c i j (ltb-true i j t) l e
    by false t e = let behind = ltb-false i j t in tickets_differ k.numbers.ticket (entries_of k.queue) c j i (omega arith) h (sym e)
