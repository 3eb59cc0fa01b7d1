-- An entry and the queue by their bytes; a test of each entry.
-- Assumes nothing.
use Prim.Native.Nat.{ℕ, ◌+◌, ◌*◌, ◌-◌, ◌≤◌}
use mathlib.Core.Path.{◌≡◌, refl, ap, ◌∙◌}
use mathlib.Core.Bool.{Bool, true, false}
use mathlib.Core.List.{List, [], ◌∷◌}
use native.Mathlib.Omega.{arith}
use denote.Param.Members.{Mut, Called}
use lib.Dec.{leb, ltb}
use lib.ListN.{length, get_or, take, drop}
use Rattle.std.specs.Iterator.{ChecksAll}
use Rattle.std.proofs.iter.Yields.{nat_range_steps}
use Rattle.octets.specs.Octets.{part}
use Rattle.fields.specs.Format.{array, read_all}
use Rattle.rules.specs.declared.Picture.{Picture}
use Rattle.rules.specs.declared.Entry.{Entry}
use Rattle.rules.specs.Bounds.{most_boxes, most_entries}
use Rattle.rules.specs.Lists.{every}
use Rattle.rules.specs.Layout.{entry_size, records_size, serial_format, picture_format, name_format, entry_format, queue_format}
use Rattle.rules.specs.Records.{entries_of}
use Rattle.rules.specs.Sound.{all, between, zeros, name_sound, entry_sound, entry_blank, queue_sound}
use Rattle.records.specs.Places.{queue_place, opened_place, numbers_in, queue_in}
use Rattle.records.proofs.Blank.{entries_blank}
use Rattle.distinct.proofs.Arrays.{next_read, none_read}
use Rattle.distinct.proofs.Ranges.{each_lem, all_told, passes_told}
use Rattle.entries.specs.Entries.{entry_place, entries_in}

-- an entry's tests
pub entry_told : (b : List ℕ) (p next : ℕ) → next ≡ (numbers_in b).picture → {r : Bool}
    → r ≡ all (every (λ (x : Picture). ltb x.0 next) ((array most_boxes picture_format).read b p) ∷ between 1 99 (get_or b (p + 144 + 2) 0) ∷ name_sound (numbers_in b) (name_format.read b (p + 144 + 2 + 1)) ∷ [])
    → r ≡ entry_sound (numbers_in b) (entry_format.read b p)
unfolding entry_sound entry_format picture_format
entry_told b p next e t = t ∙ rw e

-- what the code's `all` told of the first entries
pub entries_told : (test : Entry → Bool) (b : List ℕ) (n : ℕ) → n ≤ most_entries → {F : Type 0} {g : Mut F (ℕ × Unit {0}) Bool} {u : _} (f : F) (r : Bool)
    → ChecksAll nat_range_steps g (record { start = 0; end = n }) f r u
    → ((x : ℕ) (q : F) → Called g f (x, tt) true q → (q ≡ f) × (test (entry_format.read b (entry_place x)) ≡ true)) → ((x : ℕ) (q : F) → Called g f (x, tt) false q → test (entry_format.read b (entry_place x)) ≡ false)
    → r ≡ every test (entries_in b n)
unfolding read_all queue_format entry_format picture_format name_format serial_format
entries_told test b n few f r ran passed failed =
    passes_told (each_lem test) (entries_in b n) n (λ k. entry_format.read b (entry_place k))
    (λ k l. next_read entry_format b (queue_place + 1) most_entries n k refl (entry_place k) refl l few) (λ k h. none_read entry_format b (queue_place + 1) most_entries n k h)
    0 r (all_told (λ k. test (entry_format.read b (entry_place k))) 0 n f r ran passed failed)

-- the queue's tests
pub queue_told : (b : List ℕ) (count : ℕ) {r : Bool} → count ≡ get_or b queue_place 0 → (
    r ≡ all (leb count most_entries ∷ every (entry_sound (numbers_in b)) (entries_in b count) ∷ every entry_blank (drop count (queue_in b).entries) ∷ [])
    → r ≡ queue_sound (numbers_in b) (queue_in b))
unfolding queue_sound entries_of queue_format
queue_told b count e t = t ∙ rw e

-- the places behind the entries are zeros
pub rest_blank : (b : List ℕ) (k : ℕ) → k ≤ most_entries → records_size ≤ length b → every entry_blank (drop k (queue_in b).entries) ≡ zeros (part b (entry_place k) opened_place)
unfolding queue_format
rest_blank b k h l =
    let e : (most_entries - k) * entry_size ≡ opened_place - entry_place k = omega arith in
    entries_blank b (queue_place + 1) k h (omega arith) ∙ ap (λ (m : ℕ). zeros (take m (drop (entry_place k) b))) e
