-- The rules of the records are kept where films are printed.
-- Assumes nothing.
use Prim.Native.Nat.{ℕ, ◌+◌, ◌<◌, ◌≤◌}
use mathlib.Core.Path.{◌≡◌, refl, ap, ◌∙◌}
use mathlib.Core.Bool.{true}
use mathlib.Core.List.{List, [], ◌∷◌, ◌++◌, map}
use native.Mathlib.Omega.{arith}
use lib.Dec.{eqb, ltb}
use lib.ListN.{length, length-append}
use borrow.Author.Tests.{ltb-false, lt-ltb}
use Rattle.choice.specs.Pick.{both}
use Rattle.choice.proofs.Picks.{Kept, both_true, pick_cases}
use Rattle.rules.specs.declared.Picture.{Picture}
use Rattle.rules.specs.declared.ImageBox.{ImageBox}
use Rattle.rules.specs.declared.Film.{Film}
use Rattle.rules.specs.declared.Numbers.{Numbers}
use Rattle.rules.specs.declared.Core.{Core}
use Rattle.rules.specs.Bounds.{most_boxes}
use Rattle.rules.specs.Lists.{every, from}
use Rattle.rules.specs.Records.{picture, root_of, box_count, boxes_of, filled, no_film, films_of, entries_of, is_live, sessions_of, the_session, session_at, films_under}
use Rattle.rules.specs.Effects.{film_at, next_ticket, ticketed, ticket_after, picture_on, entry_of, entries_for, printed, queue_room}
use Rattle.rules.specs.Checks.{session_print_rules, film_print_rules}
use Rattle.rules.specs.Sound.{between, numbers_sound, box_sound, film_sound, entry_sound, core_sound, has_session}
use Rattle.promises.proofs.ListLaws.{all_holds, every_so, every_append, every_one, every_at, every_map}
use Rattle.promises.proofs.Facts.{core_facts, core_sound_lem, counted, live_facts, shelf_facts, queue_facts, entries_few, queued_sound, box_facts, film_facts, the-place}
use Rattle.promises.proofs.Later.{Later, sessions_later, shelf_later, entry_later}
use Rattle.promises.proofs.Tickets.{new_length}
use Rattle.promises.proofs.Places.{only_place, film_live_lem, films_under_lem}

-- An entry.

module _ (n : Numbers) (some : 1 ≤ n.picture) where
  picture_sound : (boxes : ℕ) (bs : List ImageBox) → every (box_sound boxes n) bs ≡ true → (position : ℕ) → ltb (picture_on bs position).0 n.picture ≡ true
  unfolding picture_on every
  picture_sound boxes [] e position = lt-ltb 0 n.picture (omega arith)
  picture_sound boxes (b ∷ bs) e position =
      let h = both_true (box_sound boxes n b) (every (box_sound boxes n) bs) e in
      pick_cases (λ (p : Picture). ltb p.0 n.picture ≡ true) (both (filled b) (eqb b.position position)) b.picture (picture_on bs position)
      (λ x. (box_facts boxes n b h.0).2)
      (λ x. picture_sound boxes bs h.1 position)

  pictures_sound : (f : Film) → film_sound n f ≡ true → every (λ (p : Picture). ltb p.0 n.picture) (map (picture_on (boxes_of f)) (from 1 most_boxes)) ≡ true
  pictures_sound f e =
      every_map (λ (p : Picture). ltb p.0 n.picture) (picture_on (boxes_of f)) (picture_sound (box_count f.layout) (boxes_of f) (film_facts n f e).boxes) (from 1 most_boxes)

  -- the copies of a session that is live
  module _ (k : Core) (copies : is_live (the_session k) ≡ true → between 1 99 (the_session k).copies ≡ true) where
    entry_sound_lem : (t : ℕ) (f : Film) → has_session (sessions_of k) f ≡ true → film_sound n f ≡ true → entry_sound n (entry_of k t f) ≡ true
    unfolding entry_sound entry_of
    entry_sound_lem t f o e =
        let own : between 1 99 (session_at k f.session).copies ≡ true = ap (λ i. between 1 99 (session_at k i).copies) (only_place k f o) ∙ copies (film_live_lem k f o) in
        all_holds _ (pictures_sound f e, (own, ((film_facts n f e).name, search)))

    new_sound : (t : ℕ) (films : List Film) → every (has_session (sessions_of k)) films ≡ true → every (film_sound n) films ≡ true → every (entry_sound n) (entries_for k t films) ≡ true
    unfolding entries_for every
    new_sound t [] o e = refl
    new_sound t (f ∷ films) o e =
        let g = both_true (has_session (sessions_of k) f) (every (has_session (sessions_of k)) films) o in
        let h = both_true (film_sound n f) (every (film_sound n) films) e in
        rw (entry_sound_lem t f g.0 h.0) (new_sound (next_ticket t) films g.1 h.1)

-- Printing.

ticketed_later : (t : ℕ) (n : Numbers) → Later n (ticketed t n)
unfolding root_of
ticketed_later t n = record { root = refl; serials = omega arith; pictures = omega arith }

ticketed_sound : (t : ℕ) (n : Numbers) → numbers_sound n ≡ true → numbers_sound (ticketed t n) ≡ true
unfolding numbers_sound root_of
ticketed_sound t n e = e

-- films that keep their rules, of live sessions, with room in the queue
pub printed_sound : (k : Core) (films : List Film) → core_sound k ≡ true → every (has_session (sessions_of k)) films ≡ true → every (film_sound k.numbers) films ≡ true → length (entries_of k.queue) + length films ≤ 16 → core_sound (printed k films) ≡ true
unfolding printed
printed_sound k films e o g room =
    let r = core_facts k e in
    let n = k.numbers in
    let t = ticket_after n.ticket films in
    let es = entries_of k.queue in
    let new = entries_for k n.ticket films in
    let later = ticketed_later t n in
    let each = every_append (entry_sound n) es new (queue_facts n k.queue r.queue).entries (new_sound n (counted n r.numbers).pictures k (λ live. (live_facts n (the_session k) (the-place k r) live).1.copies) n.ticket films o g) in
    core_sound_lem _ record {
      numbers = ticketed_sound t n r.numbers;
      sessions = sessions_later n (ticketed t n) later (sessions_of k) r.sessions;
      shelf = shelf_later n (ticketed t n) later (sessions_of k) k.shelf r.shelf;
      queue =
          queued_sound (ticketed t n) (es ++ new)
          (rw (length-append es new, new_length k n.ticket films) room)
          (every_so (entry_sound n) (entry_sound (ticketed t n)) (entry_later n (ticketed t n) later) (es ++ new) each);
      uids = r.uids;
      opened = r.opened;
    }

-- a session that is printed
pub session_printed_sound : (k : Core) → core_sound k ≡ true → Kept (session_print_rules k 0) → core_sound (printed k (films_under 0 k.shelf)) ≡ true
session_printed_sound k e h =
    let films = films_under 0 k.shelf in
    let all-films = films_under_lem k e in
    let room = ltb-false (queue_room k) (length films) h.1.1.0 in
    let q = entries_few k.numbers k.queue (core_facts k e).queue in
    let f = shelf_facts k.numbers (sessions_of k) k.shelf (core_facts k e).shelf in
    printed_sound k films e
    (ap (every (has_session (sessions_of k))) all-films ∙ f.owned)
    (ap (every (film_sound k.numbers)) all-films ∙ f.films)
    (omega arith)

-- a film that is printed
pub film_printed_sound : (k : Core) (i : ℕ) → core_sound k ≡ true → i < length (films_of k.shelf) → Kept (film_print_rules k i) → core_sound (printed k (film_at k i ∷ [])) ≡ true
film_printed_sound k i e b h =
    let films = films_of k.shelf in
    let room = ltb-false (queue_room k) 1 h.1.0 in
    let q = entries_few k.numbers k.queue (core_facts k e).queue in
    let f = shelf_facts k.numbers (sessions_of k) k.shelf (core_facts k e).shelf in
    printed_sound k (film_at k i ∷ []) e
    (every_one (has_session (sessions_of k)) (film_at k i) (every_at (has_session (sessions_of k)) films i no_film f.owned b))
    (every_one (film_sound k.numbers) (film_at k i) (every_at (film_sound k.numbers) films i no_film f.films b))
    (omega arith)
