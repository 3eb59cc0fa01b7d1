-- The entries behind the oldest move one place down, and the last place is blank: so the queue without the oldest is written.
-- Assumes nothing.
use Prim.Native.Nat.{ℕ, zero, suc, ◌+◌, ◌*◌, ◌-◌, ◌≤◌}
use mathlib.Core.Path.{◌≡◌, refl, sym, ap, ◌∙◌}
use mathlib.Core.List.{List, [], ◌∷◌, ◌++◌, append_assoc}
use native.Mathlib.Nat.{suc-mul}
use native.Mathlib.Numerals.{add-one}
use native.Mathlib.Omega.{arith}
use lib.ListN.{length, get_or, take, drop, replicate, length-append, length-drop, get_or-append}
use lib.Seq.{drop-append-le, paste, get_or_at, length-take-le}
use Rattle.octets.specs.Octets.{octets, laid, Bytes}
use Rattle.fields.specs.Format.{Format, write, byte, read_all, bytes_all, array}
use Rattle.fields.proofs.Laws.{Laws, array_laws}
use Rattle.rules.specs.declared.Entry.{Entry}
use Rattle.rules.specs.declared.Queue.{Queue}
use Rattle.rules.specs.declared.Input.{Input}
use Rattle.rules.specs.Bounds.{most_entries}
use Rattle.rules.specs.Layout.{records_size, entry_size, state_format, queue_format, entry_format, name_format, serial_format, picture_format, pack}
use Rattle.rules.specs.Records.{no_entry, entries_of, queued, with_queue}
use Rattle.rules.specs.Outcomes.{core_written}
use Rattle.rules.proofs.Sizes.{entry_size_lem}
use Rattle.rules.proofs.Steps.{entry_steps}
use Rattle.records.specs.Places.{queue_place, queue_in, core_in}
use Rattle.records.proofs.Parts.{unpack_held, core_queue}
use Rattle.records.proofs.Alone.{drop_laid, queue_alone, core_alone}
use Rattle.shelves.proofs.Filled.{Holds, holds_without}
use Rattle.writing.proofs.Chain.{laid_next_two}
use Rattle.taking.specs.Oldest.{entries_place}

-- The bytes that were so many places further up.

abbrev moved : List ℕ → ℕ → ℕ → ℕ → List ℕ
moved s at by i = paste s at (drop (at + by) s) i

pub moved_all : (s : List ℕ) (at by n : ℕ) → at + by + n ≤ length s → moved s at by n ≡ laid s at (take n (drop (at + by) s))
moved_all s at by n h =
    let l = length-take-le n (drop (at + by) s) (omega (arith, length-drop (at + by) s)) in
    rw l (append_assoc (take at s) (take n (drop (at + by) s)) (drop (at + n) s))

-- The bytes of an array without its first element, and with another at its end.

module _ {A : Type 0} (f : Format A) where
  more : (n : ℕ) → n * f.size + f.size ≡ suc n * f.size
  more n = sym (suc-mul n f.size)

  all_length : (s : List ℕ) (at n : ℕ) → length (read_all f s at n) ≡ n
  unfolding read_all
  all_length s at zero = refl
  all_length s at (suc n) = length-append (read_all f s at n) (f.read s (at + n * f.size) ∷ []) ∙ rw (all_length s at n) (add-one n)

  behind_first : (s : List ℕ) (at n : ℕ) → drop 1 (read_all f s at (suc n)) ≡ read_all f s (at + f.size) n
  unfolding read_all
  behind_first s at zero = refl
  behind_first s at (suc n) =
      let place : at + suc n * f.size ≡ at + f.size + n * f.size = omega (arith, more n) in
      drop-append-le 1 (read_all f s at (suc n)) (f.read s (at + suc n * f.size) ∷ []) (omega (arith, all_length s at (suc n)))
      ∙ rw (behind_first s at n, place)

  bytes_front : (xs ys : List A) (n : ℕ) → n ≤ length xs → bytes_all f (xs ++ ys) n ≡ bytes_all f xs n
  unfolding bytes_all
  bytes_front xs ys zero h = refl
  bytes_front xs ys (suc n) h = rw (bytes_front xs ys n (omega arith), get_or-append xs ys f.blank n (omega arith))

  bytes_last : (xs : List A) (y : A) (n : ℕ) → length xs ≡ n → bytes_all f (xs ++ (y ∷ [])) (suc n) ≡ bytes_all f xs n ++ f.bytes y
  unfolding bytes_all
  bytes_last xs y n e = rw (bytes_front xs (y ∷ []) n (omega arith), get_or_at xs y [] f.blank n e)

  lowered_bytes : Laws f → (s : List ℕ) (at n : ℕ) (y : A) → Bytes s → at + f.size + n * f.size ≤ length s
      → bytes_all f (drop 1 (read_all f s at (suc n)) ++ (y ∷ [])) (suc n) ≡ take (n * f.size) (drop (at + f.size) s) ++ f.bytes y
  lowered_bytes F s at n y o h =
      let size : at + f.size + n * f.size - (at + f.size) ≡ n * f.size = omega arith in
      let bytes : bytes_all f (read_all f s (at + f.size) n) n ≡ take (n * f.size) (drop (at + f.size) s) = (array_laws n F).forth s (at + f.size) o h ∙ rw size in
      rw (behind_first s at n, bytes_last (read_all f s (at + f.size) n) y n (all_length s (at + f.size) n), bytes)

-- A blank entry is zeros.

blank_bytes : entry_format.bytes no_entry ≡ replicate entry_size 0
unfolding entry_format picture_format name_format serial_format bytes_all octets
blank_bytes = refl

-- The queue.

module _ (b : List ℕ) (o : Bytes b) (long : records_size ≤ length b) where
  abbrev entries_in_lem : List Entry
  entries_in_lem = (array most_entries entry_format).read b entries_place

  left_bytes : bytes_all entry_format (drop 1 entries_in_lem ++ (no_entry ∷ [])) most_entries ≡ take (15 * entry_size) (drop (entries_place + entry_size) b) ++ replicate entry_size 0
  left_bytes =
      lowered_bytes entry_format entry_steps.laws b entries_place 15 no_entry o (omega (arith, entry_size_lem))
      ∙ ap (λ (n : ℕ). take (15 * n) (drop (entries_place + n) b) ++ entry_format.bytes no_entry) entry_size_lem
      ∙ ap (λ (z : List ℕ). take (15 * entry_size) (drop (entries_place + entry_size) b) ++ z) blank_bytes

  module _ (tidy : queued (entries_of (queue_in b)) ≡ queue_in b) (some : 1 ≤ (queue_in b).count) (few : (queue_in b).count ≤ most_entries) where
    held : Holds most_entries no_entry (queue_in b).count (queue_in b).entries (entries_of (queue_in b))
    unfolding queued
    held = record { counted = sym (ap (λ (q : Queue). q.count) tidy); placed = sym (ap (λ (q : Queue). q.entries) tidy) }

    left : ◌≡◌ {A = Queue} (record { count = (queue_in b).count - 1; entries = drop 1 (queue_in b).entries ++ (no_entry ∷ []) }) (queued (drop 1 (entries_of (queue_in b))))
    unfolding queued
    left =
        let n = held.counted in
        let h = holds_without most_entries no_entry (queue_in b).count (queue_in b).entries (entries_of (queue_in b)) held 0 (omega arith) few in
        rw (h.counted, h.placed)

    queue_laid : laid b queue_place ((((queue_in b).count - 1) ∷ []) ++ (take (15 * entry_size) (drop (entries_place + entry_size) b) ++ replicate entry_size 0))
        ≡ write queue_format (record { count = (queue_in b).count - 1; entries = drop 1 (queue_in b).entries ++ (no_entry ∷ []) }) b queue_place
    unfolding write queue_format
    queue_laid = ap (λ (z : List ℕ). laid b queue_place (((get_or b queue_place 0 - 1) ∷ []) ++ z)) (sym left_bytes)

    core_written_lem : write queue_format (queued (drop 1 (entries_of (queue_in b)))) b queue_place ≡ core_written (with_queue (drop 1 (entries_of (core_in b).queue)) (core_in b)) b
    unfolding core_written pack write
    core_written_lem =
        ap (λ (q : Queue). write queue_format (queued (drop 1 (entries_of q))) b queue_place) (sym (core_queue b))
        ∙ sym (queue_alone b o long (queued (drop 1 (entries_of (core_in b).queue))))
        ∙ sym (core_alone b long o (with_queue (drop 1 (entries_of (core_in b).queue)) (core_in b)))
        ∙ ap (λ (i : Input). write state_format (record { core = with_queue (drop 1 (entries_of (core_in b).queue)) (core_in b); input = i }) b 0) (sym (unpack_held b))

    -- the count, the entries behind the oldest, and a blank one at the end
    pub left_written : (m n p : List ℕ) → m ≡ write byte ((queue_in b).count - 1) b queue_place → n ≡ laid m entries_place (take (15 * entry_size) (drop (entries_place + entry_size) m))
        → p ≡ laid n (entries_place + 15 * entry_size) (replicate entry_size 0) → p ≡ core_written (with_queue (drop 1 (entries_of (core_in b).queue)) (core_in b)) b
    unfolding write
    left_written m n p em en ep =
        let count = ((queue_in b).count - 1) ∷ [] in
        let behind = take (15 * entry_size) (drop (entries_place + entry_size) b) in
        let same : drop (entries_place + entry_size) m ≡ drop (entries_place + entry_size) b = ap (drop (entries_place + entry_size)) em ∙ drop_laid b queue_place (entries_place + entry_size) count (omega arith) (omega arith) in
        let size = length-take-le (15 * entry_size) (drop (entries_place + entry_size) b) (omega (arith, length-drop (entries_place + entry_size) b)) in
        laid_next_two b m n p count behind (replicate entry_size 0) queue_place entries_place (entries_place + 15 * entry_size) (omega arith) (omega arith) (omega arith)
        em (en ∙ ap (λ (z : List ℕ). laid m entries_place (take (15 * entry_size) z)) same) ep
        ∙ queue_laid ∙ ap (λ (q : Queue). write queue_format q b queue_place) left ∙ core_written_lem
