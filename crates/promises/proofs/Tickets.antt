-- Tickets: those in the queue follow each other modulo 65,536 up to the next one, so that the sixteen at most differ.
-- Assumes nothing.
use Prim.Native.Nat.{ℕ, zero, suc, ◌+◌, ◌%◌, ◌<◌, ◌≤◌}
use mathlib.Core.Path.{◌≡◌, refl, sym, ap, ◌∙◌}
use mathlib.Core.List.{List, [], ◌∷◌, ◌++◌}
use native.Mathlib.Omega.{arith}
use lib.ListN.{length, get_or, drop, length-append}
use borrow.Author.Tests.{ltb-false}
use Rattle.choice.proofs.Picks.{pick_cases}
use Rattle.strike.specs.Service.{Call}
use Rattle.strike.specs.Machine.{Records}
use Rattle.strike.specs.Messages.{after}
use Rattle.rules.specs.declared.Film.{Film}
use Rattle.rules.specs.declared.Numbers.{Numbers}
use Rattle.rules.specs.declared.Entry.{Entry}
use Rattle.rules.specs.declared.Core.{Core}
use Rattle.rules.specs.Records.{no_entry, entries_of, queued, picture_used, films_under}
use Rattle.rules.specs.declared.Image.{Image}
use Rattle.rules.specs.Attributes.{image_in, is_fill}
use Rattle.rules.specs.Effects.{next_ticket, entry_of, entries_for, ticket_after, printed, queue_room, numbers_after, film_at}
use Rattle.rules.specs.Calls.{Starting, Opening, handed, started, opened, closed, taken, printing}
use Rattle.promises.proofs.ListLaws.{entries_queued}
use Rattle.promises.proofs.Decided.{After, the_effects}
use Rattle.promises.proofs.Steps.{AfterCalls, run_kept}

-- the tickets of entries follow each other from the first on, up to the next
abbrev pub Follow : ℕ → List Entry → ℕ → Type 0
Follow t [] next = t ≡ next
Follow t (e ∷ es) next = (e.ticket ≡ t) × Follow (next_ticket t) es next

-- at most sixteen entries, and their tickets are consecutive up to the next
pub record Consecutive (next : ℕ) (es : List Entry) : Type 0 where
  pub few : length es ≤ 16
  pub oldest : ℕ
  pub small : oldest < 65536
  pub follow : Follow oldest es next

-- the queue of the records, and their next ticket
abbrev pub Ticketed : Core → Type 0
Ticketed k = Consecutive k.numbers.ticket (entries_of k.queue)

next_small : (t : ℕ) → next_ticket t < 65536
next_small t = omega arith

-- The tickets by place.

-- the ticket at a place is so many after the first
pub ticket_at : (t : ℕ) (es : List Entry) (next : ℕ) → t < 65536 → Follow t es next → (i : ℕ) → i < length es → (get_or es i no_entry).ticket ≡ (t + i) % 65536
ticket_at t [] next s f i h = absurd (omega arith)
ticket_at t (e ∷ es) next s f zero h = omega (arith, f.0)
ticket_at t (e ∷ es) next s f (suc i) h = ticket_at (next_ticket t) es next (next_small t) f.1 i (omega arith) ∙ omega arith

-- and the next one is as many after it as there are entries
pub next_at : (t : ℕ) (es : List Entry) (next : ℕ) → t < 65536 → Follow t es next → next ≡ (t + length es) % 65536
next_at t [] next s f = omega (arith, f)
next_at t (e ∷ es) next s f = next_at (next_ticket t) es next (next_small t) f.1 ∙ omega arith

-- the tickets of new entries are the next ones
pub new_follow : (k : Core) (t : ℕ) (films : List Film) → Follow t (entries_for k t films) (ticket_after t films)
unfolding entries_for ticket_after entry_of
new_follow k t [] = refl
new_follow k t (f ∷ films) = (refl, new_follow k (next_ticket t) films)

pub new_length : (k : Core) (t : ℕ) (films : List Film) → length (entries_for k t films) ≡ length films
unfolding entries_for
new_length k t [] = refl
new_length k t (f ∷ films) = ap suc (new_length k (next_ticket t) films)

pub ticket_after_lem : (k : Core) (t : ℕ) (films : List Film) → t < 65536 → ticket_after t films ≡ (t + length films) % 65536
ticket_after_lem k t films s = next_at t (entries_for k t films) (ticket_after t films) s (new_follow k t films) ∙ rw (new_length k t films)

-- They differ.

module _ (next : ℕ) (es : List Entry) (c : Consecutive next es) where
  -- any two entries have different tickets, also around 65,535
  pub tickets_differ : (i j : ℕ) → i < j → j < length es → (get_or es i no_entry).ticket ≡ (get_or es j no_entry).ticket → ⊥
  tickets_differ i j h l e =
      let a = ticket_at c.oldest es next c.small c.follow i (omega arith) in
      let b = ticket_at c.oldest es next c.small c.follow j l in
      let s : (c.oldest + i) % 65536 ≡ (c.oldest + j) % 65536 = sym a ∙ e ∙ b in
      omega arith

  -- nor is the next one among them
  pub next_differs : (i : ℕ) → i < length es → (get_or es i no_entry).ticket ≡ next → ⊥
  next_differs i h e =
      let a = ticket_at c.oldest es next c.small c.follow i h in
      let b = next_at c.oldest es next c.small c.follow in
      let s : (c.oldest + i) % 65536 ≡ (c.oldest + length es) % 65536 = sym a ∙ e ∙ b in
      omega arith

-- The calls keep that.

follow_append : (t : ℕ) (xs : List Entry) (middle : ℕ) (ys : List Entry) (next : ℕ) → Follow t xs middle → Follow middle ys next → Follow t (xs ++ ys) next
follow_append t [] middle ys next f g = rw f g
follow_append t (x ∷ xs) middle ys next f g = (f.0, follow_append (next_ticket t) xs middle ys next f.1 g)

oldest_taken : (t : ℕ) (es : List Entry) (next : ℕ) → length es ≤ 16 → t < 65536 → Follow t es next → Consecutive next (drop 1 es)
oldest_taken t [] next l s f = record { few = l; oldest = t; small = s; follow = f }
oldest_taken t (e ∷ es) next l s f = record { few = omega arith; oldest = next_ticket t; small = next_small t; follow = f.1 }

pub started_ticketed : (h : Starting) → Ticketed (started h)
unfolding started entries_of queued
started_ticketed h = record { few = omega arith; oldest = 0; small = omega arith; follow = refl }

module _ (k : Core) (c : Ticketed k) where
  pub opened_ticketed : (h : Opening) → Ticketed (opened k h)
  unfolding opened
  opened_ticketed h = c

  pub closed_ticketed : Ticketed (closed k)
  unfolding closed
  closed_ticketed = c

  pub taken_ticketed : Ticketed (taken k).0
  unfolding taken
  taken_ticketed =
      rw (entries_queued (drop 1 (entries_of k.queue)))
      (oldest_taken c.oldest (entries_of k.queue) k.numbers.ticket c.few c.small c.follow)

  -- printing, with room
  pub printed_ticketed : (films : List Film) → length (entries_of k.queue) + length films ≤ 16 → Ticketed (printed k films)
  unfolding printed
  printed_ticketed films room =
      let es = entries_of k.queue in
      let t = k.numbers.ticket in
      let new = entries_for k t films in
      rw (entries_queued (es ++ new))
      (record {
        few = rw (length-append es new, new_length k t films) room;
        oldest = c.oldest;
        small = c.small;
        follow = follow_append c.oldest es t new (ticket_after t films) c.follow (new_follow k t films);
      })

  box_ticket : (image : Image) (n : Numbers) → (numbers_after image n).ticket ≡ n.ticket
  box_ticket image n = pick_cases (λ m. m.ticket ≡ n.ticket) (is_fill image) (picture_used n) n (λ e. refl) (λ e. refl)

  after_ticketed : After Ticketed k
  unfolding the_effects
  after_ticketed = record {
    kept = c;
    new_session = λ b sent l x y. c;
    new_film = λ b sent l x y. c;
    set_session = λ uid l x y. c;
    set_film = λ uid i l x y. c;
    set_box = λ uid i j l x y. rw (box_ticket (image_in l) k.numbers) c;
    print_session = λ uid x y.
        let room = ltb-false (queue_room k) (length (films_under 0 k.shelf)) y.1.1.0 in
        printed_ticketed (films_under 0 k.shelf) (omega (arith, c.few));
    print_film = λ uid i x y.
        let room = ltb-false (queue_room k) 1 y.1.0 in
        printed_ticketed (film_at k i ∷ []) (omega (arith, c.few));
    no_session = λ uid x. c;
    no_film = λ uid i x. c;
  }

  pub each_ticketed : AfterCalls Ticketed k
  each_ticketed = record {
    open_kept = λ h r. opened_ticketed h;
    close_kept = closed_ticketed;
    take_kept = taken_ticketed;
    request_kept = after_ticketed;
  }

-- after any run of calls the tickets in the queue are consecutive, at most sixteen
pub run_ticketed : (s : Records Core) (cs : List (Call handed)) → Ticketed s.core → Ticketed (after printing s cs).core
run_ticketed = run_kept Ticketed (λ h r. started_ticketed h) each_ticketed
