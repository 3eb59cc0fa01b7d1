-- The queue with one entry more, and films printed one after another.
-- Assumes nothing.
use Rattle.std.proofs.Common.{◌≡◌, ℕ, suc, ◌+◌, ◌-◌, ◌<◌, List, [], ◌∷◌, ◌++◌, length, get_or, take, set, replicate, sym, refl, ap, ◌∙◌, append_assoc, append-nil, add-one, arith, length-append, length-take-le, take-suc}
use lib.Seq.{take-append_seam, set-append_seam, append_snoc}
use Rattle.rules.specs.declared.Film.{Film}
use Rattle.rules.specs.declared.Entry.{Entry}
use Rattle.rules.specs.declared.Queue.{Queue}
use Rattle.rules.specs.declared.Core.{Core}
use Rattle.rules.specs.Bounds.{most_entries}
use Rattle.rules.specs.Lists.{filled_to}
use Rattle.rules.specs.Records.{no_entry, entries_of, queued}
use Rattle.rules.specs.Effects.{next_ticket, entry_of, entries_for, ticket_after, printed}

-- A filled list with one element more.
filled_more : {A : Type 0} (m : ℕ) (blank : A) (xs : List A) (x : A) → length xs < m → set (filled_to m blank xs) (length xs) x ≡ filled_to m blank (xs ++ (x ∷ []))
filled_more m blank xs x h =
    let l = length-append xs (x ∷ []) in
    let e : m - length xs ≡ suc (m - length (xs ++ (x ∷ []))) = omega arith in
    rw e (set-append_seam xs blank (replicate (m - length (xs ++ (x ∷ []))) blank) x ∙ sym (append_snoc xs x (replicate (m - length (xs ++ (x ∷ []))) blank)))

-- The places past the count are blank.
abbrev pub Tidy : Queue → Type 0
Tidy q = queued (entries_of q) ≡ q

module _ (q : Queue) (tidy : Tidy q) where
  pub tidy_count : q.count ≡ length (entries_of q)
  unfolding queued
  tidy_count = sym (ap (λ (x : Queue). x.count) tidy)

abbrev pub longer : Queue → Entry → Queue
longer q e = record { count = q.count + 1; entries = set q.entries q.count e }

filled_longer : (es : List Entry) (e : Entry) → length es < 16 → longer (queued es) e ≡ queued (es ++ (e ∷ []))
unfolding queued
filled_longer es e h = rw (filled_more 16 no_entry es e h, length-append es (e ∷ []))

pub queued_longer : (q : Queue) (e : Entry) → Tidy q → length (entries_of q) < 16 → longer q e ≡ queued (entries_of q ++ (e ∷ []))
queued_longer q e tidy h = ap (λ (x : Queue). longer x e) (sym tidy) ∙ filled_longer (entries_of q) e h

entries_queued : (es : List Entry) → entries_of (queued es) ≡ es
unfolding entries_of queued
entries_queued es = take-append_seam es (replicate (most_entries - length es) no_entry)

-- Films printed.

module _ (k : Core) where
  new_length : (t : ℕ) (films : List Film) → length (entries_for k t films) ≡ length films
  unfolding entries_for
  new_length t [] = refl
  new_length t (f ∷ films) = ap suc (new_length (next_ticket t) films)

  entries_more : (t : ℕ) (films : List Film) (f : Film) → entries_for k t (films ++ (f ∷ [])) ≡ entries_for k t films ++ (entry_of k (ticket_after t films) f ∷ [])
  unfolding entries_for ticket_after
  entries_more t [] f = refl
  entries_more t (g ∷ films) f = ap (λ (es : List Entry). entry_of k t g ∷ es) (entries_more (next_ticket t) films f)

  pub printed_none : Tidy k.queue → k ≡ printed k []
  unfolding printed entries_for ticket_after
  printed_none tidy = rw (append-nil (entries_of k.queue), tidy)

  pub printed_tidy : (films : List Film) → Tidy (printed k films).queue
  unfolding printed
  printed_tidy films = ap queued (entries_queued (entries_of k.queue ++ entries_for k k.numbers.ticket films))

  pub printed_length : (films : List Film) → length (entries_of (printed k films).queue) ≡ length (entries_of k.queue) + length films
  unfolding printed
  printed_length films = rw (entries_queued (entries_of k.queue ++ entries_for k k.numbers.ticket films), length-append (entries_of k.queue) (entries_for k k.numbers.ticket films), new_length k.numbers.ticket films)

ticket_more : (t : ℕ) (films : List Film) (f : Film) → ticket_after t (films ++ (f ∷ [])) ≡ next_ticket (ticket_after t films)
unfolding ticket_after
ticket_more t [] f = refl
ticket_more t (g ∷ films) f = ticket_more (next_ticket t) films f

-- films, and then one more
printed_more : (k : Core) (films : List Film) (f : Film) → printed (printed k films) (f ∷ []) ≡ printed k (films ++ (f ∷ []))
unfolding printed entries_for ticket_after entry_of
printed_more k films f =
    let t = k.numbers.ticket in
    let es = entries_of k.queue in
    rw (entries_queued (es ++ entries_for k t films), entries_more k t films f, ticket_more t films f, append_assoc es (entries_for k t films))

-- where some films are printed there is room for another
pub printed_room : (k after : Core) (xs : List Film) (i : ℕ) → i < length xs → length (entries_of k.queue) + i < 16 → after ≡ printed k (take i xs) → Tidy after.queue × (length (entries_of after.queue) < 16)
printed_room k after xs i h room p =
    let l = length-take-le i xs (omega arith) in
    let e = printed_length k (take i xs) in
    rw p (printed_tidy k (take i xs), omega arith)

pub printed_turn : (k after next : Core) (xs : List Film) (i : ℕ) (d : Film) → i < length xs → next ≡ printed after (get_or xs i d ∷ []) → after ≡ printed k (take i xs) → next ≡ printed k (take (i + 1) xs)
printed_turn k after next xs i d h e p =
    e ∙ (ap (λ (x : Core). printed x (get_or xs i d ∷ [])) p ∙ (printed_more k (take i xs) (get_or xs i d) ∙ rw (add-one i, take-suc xs i d h)))
