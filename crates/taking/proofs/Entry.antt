-- The oldest entry: its bytes, and what the rules of the records say of it.
-- Assumes nothing.
use Prim.Native.Nat.{ℕ, zero, suc, ◌+◌, ◌*◌, ◌≤◌}
use mathlib.Core.Path.{◌≡◌, refl, sym, ap, subst, ◌∙◌}
use mathlib.Core.Bool.{Bool, true, false}
use mathlib.Core.List.{List, [], ◌∷◌, ◌++◌, append_assoc, append-nil}
use native.Mathlib.Omega.{arith}
use lib.Dec.{eqb}
use lib.ListN.{length, get_or, take, drop, replicate, length-drop}
use lib.Seq.{take-suc, take_all, length-take-le}
use borrow.Author.Tests.{eqb-true, eqb-false, ltb-false, eq-eqb, ne_eqb}
use Rattle.choice.specs.Pick.{pick}
use Rattle.choice.specs.Rules.{first_broken}
use Rattle.choice.proofs.Picks.{Kept}
use Rattle.choice.proofs.Broken.{none_broken}
use Rattle.octets.specs.Octets.{number_at, octets, part, laid, Bytes}
use Rattle.octets.proofs.Numbers.{octets_length}
use Rattle.fields.specs.Format.{array, bytes_all}
use Rattle.fields.proofs.Laws.{number_laws, ◌then-laws◌, array_laws, get_read}
use Rattle.uids.specs.Uids.{made}
use Rattle.uids.proofs.Made.{made_short}
use Rattle.rules.specs.declared.Picture.{Picture}
use Rattle.rules.specs.declared.Name.{Name}
use Rattle.rules.specs.declared.Numbers.{Numbers}
use Rattle.rules.specs.declared.Entry.{Entry}
use Rattle.rules.specs.declared.Queue.{Queue}
use Rattle.rules.specs.declared.Core.{Core}
use Rattle.rules.specs.Bounds.{most_boxes, most_entries, copies_place, uid_place, entry_room}
use Rattle.rules.specs.Lists.{filled_to}
use Rattle.rules.specs.Layout.{records_size, serial_format, picture_format, name_format, numbers_format, entry_format, queue_format, unpack}
use Rattle.rules.specs.Records.{root_of, uid_of, no_entry, entries_of, queued}
use Rattle.rules.specs.Calls.{take_rules, picture_bytes, entry_bytes, taken}
use Rattle.rules.specs.Outcomes.{records_rules}
use Rattle.rules.specs.Sound.{name_sound, sent_sound, made_sound, entry_sound, core_sound}
use Rattle.rules.proofs.Accepted.{long_enough, rules_kept}
use Rattle.rules.proofs.Steps.{picture_steps, entry_steps}
use Rattle.writing.proofs.Chain.{laid_next_two}
use Rattle.promises.proofs.ListLaws.{all_true, every_at}
use Rattle.promises.proofs.Facts.{between_true, core_facts, numbers_facts, queue_facts}
use Rattle.promises.proofs.Sized.{Sized}
use Rattle.promises.proofs.Tidy.{tidy_queue, queue_few}
use Rattle.promises.proofs.Kept.{sound_parts}
use Rattle.promises.proofs.Unpacked.{unpacked_sized}
use Rattle.records.specs.Places.{queue_place, numbers_in, queue_in, core_in}
use Rattle.records.proofs.Parts.{unpack_core, core_numbers, core_queue}
use Rattle.records.proofs.Texts.{text_front}
use Rattle.shelves.proofs.Filled.{laid_filled}
use Rattle.taking.specs.Oldest.{entries_place, film_place}

-- Pictures.

pictures_append : (a b : List Picture) → picture_bytes (a ++ b) ≡ picture_bytes a ++ picture_bytes b
unfolding picture_bytes
pictures_append [] b = refl
pictures_append (p ∷ ps) b = rw (pictures_append ps b) (sym (append_assoc (octets 4 p.0) (picture_bytes ps) (picture_bytes b)))

first_pictures : (n : ℕ) (ps : List Picture) → n ≤ length ps → bytes_all picture_format ps n ≡ picture_bytes (take n ps)
unfolding bytes_all picture_bytes picture_format
first_pictures zero ps h = refl
first_pictures (suc n) ps h =
    let p = get_or ps n (record { 0 = 0 }) in
    rw (take-suc ps n (record { 0 = 0 }) h, pictures_append (take n ps) (p ∷ []), first_pictures n ps (omega arith), append-nil (octets 4 p.0))

all_pictures : (ps : List Picture) → length ps ≡ most_boxes → bytes_all picture_format ps most_boxes ≡ picture_bytes ps
all_pictures ps e = first_pictures most_boxes ps (omega arith) ∙ ap picture_bytes (take_all most_boxes ps (omega arith))

-- An entry's parts, laid one after the other: pictures and ticket as they stand in the records, copies and UID.

module _ (b : List ℕ) (o : Bytes b) (long : records_size ≤ length b) where
  abbrev oldest : Entry
  oldest = entry_format.read b entries_place

  abbrev front : List ℕ
  front = part b entries_place (entries_place + copies_place)

  front_bytes : front ≡ picture_bytes oldest.pictures ++ octets 2 oldest.ticket
  unfolding entry_format picture_format
  front_bytes =
      let all = array_laws most_boxes picture_steps.laws in
      sym ((all then-laws number_laws 2).forth b entries_place o (omega arith))
      ∙ ap (λ (z : List ℕ). z ++ octets 2 oldest.ticket) (all_pictures oldest.pictures (all.good b entries_place o).0)

  pub entry_laid : (s m n p : List ℕ) (uid : List ℕ) → entry_room ≤ length s
      → m ≡ laid s 0 front → n ≡ laid m copies_place (octets 2 oldest.copies) → uid ≡ filled_to 64 0 (uid_of (numbers_in b) oldest.film) → p ≡ laid n uid_place uid
      → p ≡ laid s 0 (entry_bytes (numbers_in b) oldest)
  unfolding entry_bytes
  entry_laid s m n p uid room em en eu ep =
      let copies = octets 2 oldest.copies in
      let name = filled_to 64 0 (uid_of (numbers_in b) oldest.film) in
      let size = length-take-le copies_place (drop entries_place b) (omega (arith, length-drop entries_place b)) in
      laid_next_two s m n p front copies name 0 copies_place uid_place (omega (arith, size, octets_length 2 oldest.copies)) (omega (arith, size)) (omega (arith, octets_length 2 oldest.copies)) em en (ep ∙ ap (laid n uid_place) eu)
      ∙ ap (laid s 0) (ap (λ (z : List ℕ). z ++ (copies ++ name)) front_bytes ∙ append_assoc (picture_bytes oldest.pictures) (octets 2 oldest.ticket) (copies ++ name))

-- A queue whose places past the count are blank.

counted : (q : Queue) → queued (entries_of q) ≡ q → length (entries_of q) ≡ q.count
unfolding queued
counted q tidy = ap (λ (x : Queue). x.count) tidy

pub entries_counted : (b : List ℕ) → queued (entries_of (queue_in b)) ≡ queue_in b → length (entries_of (core_in b).queue) ≡ get_or b queue_place 0
unfolding queue_format
entries_counted b tidy = ap (λ (q : Queue). length (entries_of q)) (core_queue b) ∙ counted (queue_in b) tidy

first_taken : {A : Type 0} (n : ℕ) (xs : List A) (d blank : A) → 1 ≤ n → 1 ≤ length xs → get_or xs 0 d ≡ get_or (take n xs) 0 blank
first_taken zero xs d blank h k = absurd (omega arith)
first_taken (suc n) [] d blank h k = absurd (omega arith)
first_taken (suc n) (x ∷ xs) d blank h k = refl

-- What the rules of the records say of the oldest entry.

name_cases : (n : Numbers) (name : Name) (sent : Bool) → pick sent (sent_sound n name) (made_sound n name) ≡ true → name.used ≤ 64
name_cases n name true e = (between_true 1 64 name.used (all_true _ e).0).1
name_cases n name false e = let none = eqb-true name.used 0 (all_true _ e).1.0 in omega arith

name_short : (n : Numbers) (name : Name) → name_sound n name ≡ true → name.used ≤ 64
unfolding name_sound
name_short n name e = name_cases n name (eqb name.made.0 0) e

entry_name : (n : Numbers) (e : Entry) → entry_sound n e ≡ true → name_sound n e.film ≡ true
unfolding entry_sound
entry_name n e h = (all_true _ h).1.1.0

-- what a call is told of the records that it accepts
record Ready (k : Core) : Type 0 where
  kept : core_sound k ≡ true
  sized : Sized k

module _ (b : List ℕ) (o : Bytes b) (unbroken : first_broken (records_rules b) ≡ 0) where
  accepted : Kept (records_rules b)
  accepted = none_broken (records_rules b) refl unbroken

  pub long : records_size ≤ length b
  long = long_enough b accepted

  ready : Ready (core_in b)
  ready = subst Ready (unpack_core b) (record { kept = (sound_parts (unpack b) (rules_kept b accepted)).0; sized = unpacked_sized b o })

  tidy_core : queued (entries_of (core_in b).queue) ≡ (core_in b).queue
  tidy_core = tidy_queue (core_in b) ready.kept ready.sized

  pub tidy : queued (entries_of (queue_in b)) ≡ queue_in b
  tidy = subst (λ (q : Queue). queued (entries_of q) ≡ q) (core_queue b) tidy_core

  -- no rule of the take is broken
  module _ (room : ℕ) (e : first_broken (take_rules (core_in b) room) ≡ 0) where
    kept_rules : Kept (take_rules (core_in b) room)
    kept_rules = none_broken (take_rules (core_in b) room) refl e

    some : 1 ≤ length (entries_of (core_in b).queue)
    some = let h = eqb-false (length (entries_of (core_in b).queue)) 0 kept_rules.1.0 in omega arith

    pub left_asked : (queued (entries_of (queue_in b)) ≡ queue_in b) × (1 ≤ (queue_in b).count) × ((queue_in b).count ≤ 16)
    left_asked =
        let n = counted (core_in b).queue tidy_core in
        let some_in : 1 ≤ (core_in b).queue.count = omega (arith, some, n) in
        (tidy, subst (λ (q : Queue). 1 ≤ q.count) (core_queue b) some_in, subst (λ (q : Queue). q.count ≤ 16) (core_queue b) (queue_few (core_in b) ready.kept))

    -- the oldest stands first
    first_entry : get_or (entries_of (core_in b).queue) 0 no_entry ≡ entry_format.read b entries_place
    unfolding entries_of queue_format
    first_entry =
        let entries = (array most_entries entry_format).read b entries_place in
        let full : length entries ≡ most_entries = ((array_laws most_entries entry_steps.laws).good b entries_place o).0 in
        let place : entries_place + 0 * entry_format.size ≡ entries_place = omega arith in
        ap (λ (q : Queue). get_or (entries_of q) 0 no_entry) (core_queue b)
        ∙ sym (first_taken (get_or b queue_place 0) entries entry_format.blank no_entry left_asked.1 (omega arith))
        ∙ get_read entry_format b entries_place most_entries 0 (omega arith)
        ∙ ap (entry_format.read b) place

    pub taken_bytes : entry_bytes (numbers_in b) (entry_format.read b entries_place) ≡ (taken (core_in b)).1
    unfolding taken
    taken_bytes = rw (core_numbers b, first_entry)

    pub oldest_asked : (entry_room ≤ room) × ((numbers_in b).used ≤ 40) × ((name_format.read b film_place).used ≤ 64)
    unfolding entry_format picture_format
    oldest_asked =
        let facts = core_facts (core_in b) ready.kept in
        let right = every_at (entry_sound (core_in b).numbers) (entries_of (core_in b).queue) 0 no_entry (queue_facts (core_in b).numbers (core_in b).queue facts.queue).entries some in
        let short = name_short (core_in b).numbers _ (entry_name (core_in b).numbers _ right) in (
          ltb-false room entry_room kept_rules.0,
          subst (λ (n : Numbers). n.used ≤ 40) (core_numbers b) (between_true 1 40 (core_in b).numbers.used (numbers_facts (core_in b).numbers facts.numbers).used).1,
          subst (λ (x : Entry). x.film.used ≤ 64) first_entry short,
        )

-- UIDs, zero-filled.

module _ (b : List ℕ) (long : records_size ≤ length b) where
  pub sent_uid_lem : number_at 4 b film_place ≡ 0 → (name_format.read b film_place).used ≤ 64 → (o : List ℕ) → o ≡ filled_to 64 0 (part b (film_place + 5) (film_place + 5 + get_or b (film_place + 4) 0))
      → o ≡ filled_to 64 0 (uid_of (numbers_in b) (name_format.read b film_place))
  unfolding uid_of name_format serial_format
  sent_uid_lem none short o e = e ∙ rw (eq-eqb _ _ none) (ap (filled_to 64 0) (sym (text_front b (film_place + 5) 64 (omega arith) (get_or b (film_place + 4) 0) short)))

  pub made_uid : (number_at 4 b film_place ≡ 0 → ⊥) → (numbers_in b).used ≤ 40 → (o : List ℕ) → o ≡ filled_to 64 0 (made (part b 1 (1 + get_or b 0 0)) (number_at 4 b film_place))
      → o ≡ filled_to 64 0 (uid_of (numbers_in b) (name_format.read b film_place))
  unfolding uid_of root_of name_format serial_format numbers_format
  made_uid some short o e = e ∙ rw (ne_eqb _ _ some) (ap (λ (root : List ℕ). filled_to 64 0 (made root (number_at 4 b film_place))) (sym (text_front b 1 40 (omega arith) (get_or b 0 0) short)))

pub made_fits : (root : List ℕ) (serial : ℕ) → length root ≤ 40 → laid (replicate 64 0) 0 (made root serial) ≡ filled_to 64 0 (made root serial)
made_fits root serial h = laid_filled 64 0 (made root serial) (omega (arith, made_short root serial h))
