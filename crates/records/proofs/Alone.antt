-- A part of the records that is written alone, with the others as they stand: so all records would be written.
-- Assumes nothing.
use Prim.Native.Nat.{ℕ, ◌+◌, ◌-◌, ◌≤◌}
use mathlib.Core.Path.{◌≡◌, sym, ap, ◌∙◌}
use mathlib.Core.List.{List, ◌++◌, append_assoc}
use native.Mathlib.Omega.{arith}
use lib.ListN.{length, take, drop, length-append, length-drop, take-append-drop}
use lib.Seq.{drop_at, drop-drop, length-take-le}
use Rattle.octets.specs.Octets.{laid, Bytes}
use Rattle.fields.specs.Format.{Format, write, array, ◌then◌}
use Rattle.fields.proofs.Laws.{Laws, write_read, array_laws}
use Rattle.fields.proofs.Steps.{length_write, write_then}
use Rattle.rules.specs.declared.Queue.{Queue}
use Rattle.rules.specs.declared.Opened.{Opened}
use Rattle.rules.specs.declared.Core.{Core}
use Rattle.rules.specs.declared.Input.{Input}
use Rattle.rules.specs.Bounds.{most_sessions}
use Rattle.rules.specs.Layout.{core_size, records_size, state_format, core_format, input_format, numbers_format, session_format, shelf_format, queue_format, opened_format}
use Rattle.rules.proofs.Sizes.{numbers_size_lem, sessions_size, shelf_size_lem, queue_size_lem, opened_size_lem, core_size_lem, input_size_lem}
use Rattle.rules.proofs.Steps.{numbers_steps, session_steps, shelf_steps, queue_steps, opened_steps, core_steps, input_steps}
use Rattle.records.specs.Places.{queue_place, opened_place, core_in, held_in}
use Rattle.records.proofs.Parts.{core_queue, core_opened}

-- what stands behind the bytes laid stays
pub drop_laid : (s : List ℕ) (at n : ℕ) (bytes : List ℕ) → at + length bytes ≤ length s → at + length bytes ≤ n → drop n (laid s at bytes) ≡ drop n s
drop_laid s at n bytes h l =
    let end = at + length bytes in
    let front : length (take at s ++ bytes) ≡ end = simp (length-append, length-take-le at s (omega arith)) in
    let k : end + (n - end) ≡ n = omega arith in
    let both : drop end (laid s at bytes) ≡ drop end s =
    ap (drop end) (sym (append_assoc (take at s) bytes (drop end s))) ∙ drop_at (take at s ++ bytes) (drop end s) end front in
    ap (λ (m : ℕ). drop m (laid s at bytes)) (sym k)
    ∙ sym (drop-drop (n - end) end (laid s at bytes))
    ∙ ap (drop (n - end)) both
    ∙ drop-drop (n - end) end s
    ∙ ap (λ (m : ℕ). drop m s) k

-- what stands in a list already, laid again, changes nothing
laid_again : (s : List ℕ) (at n : ℕ) → at + n ≤ length s → laid s at (take n (drop at s)) ≡ s
laid_again s at n h =
    let e : length (take n (drop at s)) ≡ n = length-take-le n (drop at s) (omega (arith, length-drop at s)) in
    rw (e, ← drop-drop n at s, take-append-drop n (drop at s)) (take-append-drop at s)

module _ {A : Type 0} {f : Format A} (F : Laws f) where
  -- what a list holds, written into another that is the same from there on
  pub kept : (s t : List ℕ) (at : ℕ) → Bytes s → at + f.size ≤ length s → length t ≡ length s → drop at t ≡ drop at s → write f (f.read s at) t at ≡ t
  unfolding write
  kept s t at o h l e =
      let k : at + f.size - at ≡ f.size = omega arith in
      let same : f.bytes (f.read s at) ≡ take f.size (drop at t) = F.forth s at o h ∙ rw (k, e) in
      ap (laid t at) same ∙ laid_again t at f.size (omega arith)

  pub drop_write : (a : A) (s : List ℕ) (at n : ℕ) → at + f.size ≤ length s → at + f.size ≤ n → drop n (write f a s at) ≡ drop n s
  unfolding write
  drop_write a s at n h l = let e = F.sized a in drop_laid s at n (f.bytes a) (omega arith) (omega arith)

-- Two formats, one behind the other.
module _ {A B : Type 0} {f : Format A} (F : Laws f) (s : List ℕ) (at : ℕ) (o : Bytes s) where
  pub second_alone : (g : Format B) (y : B) → at + f.size ≤ length s → write (f then g) (f.read s at, y) s at ≡ write g y s (at + f.size)
  second_alone g y h = write_then F g (f.read s at, y) s at h ∙ ap (λ (t : List ℕ). write g y t (at + f.size)) (write_read F s at o h)

  pub first_alone : {g : Format B} (G : Laws g) (x : A) → at + f.size + g.size ≤ length s → write (f then g) (x, g.read s (at + f.size)) s at ≡ write f x s at
  first_alone {g} G x h =
      write_then F g (x, g.read s (at + f.size)) s at (omega arith)
      ∙ kept G s (write f x s at) (at + f.size) o h (length_write F x s at (omega arith)) (drop_write F x s at (at + f.size) (omega arith) (omega arith))

-- The parts of the core.
module _ (b : List ℕ) (o : Bytes b) (h : records_size ≤ length b) where
  abbrev core_with : Queue → Opened → Core
  core_with q x = record { numbers = (core_in b).numbers; sessions = (core_in b).sessions; shelf = (core_in b).shelf; queue = q; opened = x }

  pub behind_shelf : (q : Queue) (x : Opened) → write core_format (core_with q x) b 0 ≡ write (queue_format then opened_format) (q, x) b queue_place
  unfolding core_format write
  behind_shelf q x =
      let sessions = array most_sessions session_format in
      let at-sessions = 0 + numbers_format.size in
      let at-shelf = at-sessions + sessions.size in
      second_alone numbers_steps.laws b 0 o (sessions then shelf_format then queue_format then opened_format) (sessions.read b at-sessions, (shelf_format.read b at-shelf, (q, x))) (omega (arith, numbers_size_lem))
      ∙ second_alone (array_laws most_sessions session_steps.laws) b at-sessions o (shelf_format then queue_format then opened_format) (shelf_format.read b at-shelf, (q, x)) (omega (arith, numbers_size_lem, sessions_size))
      ∙ second_alone shelf_steps.laws b at-shelf o (queue_format then opened_format) (q, x) (omega (arith, numbers_size_lem, sessions_size, shelf_size_lem))
      ∙ ap (write (queue_format then opened_format) (q, x) b) place
    where
      place : 0 + numbers_format.size + (array most_sessions session_format).size + shelf_format.size ≡ queue_place
      place = omega (arith, numbers_size_lem, sessions_size, shelf_size_lem)

  opened_there : queue_place + queue_format.size ≡ opened_place
  opened_there = omega (arith, queue_size_lem)

  pub queue_alone : (q : Queue) → write core_format (core_with q (core_in b).opened) b 0 ≡ write queue_format q b queue_place
  queue_alone q =
      behind_shelf q (core_in b).opened
      ∙ ap (λ (x : Opened). write (queue_format then opened_format) (q, x) b queue_place) (core_opened b ∙ ap (opened_format.read b) (sym opened_there))
      ∙ first_alone queue_steps.laws b queue_place o opened_steps.laws q (omega (arith, queue_size_lem, opened_size_lem))

  pub opened_alone : (x : Opened) → write core_format (core_with (core_in b).queue x) b 0 ≡ write opened_format x b opened_place
  opened_alone x =
      behind_shelf (core_in b).queue x
      ∙ ap (λ (q : Queue). write (queue_format then opened_format) (q, x) b queue_place) (core_queue b)
      ∙ second_alone queue_steps.laws b queue_place o opened_format x (omega (arith, queue_size_lem))
      ∙ ap (write opened_format x b) opened_there

-- The core and the input.
module _ (b : List ℕ) (h : records_size ≤ length b) where
  pub core_then_input : (k : Core) (i : Input) → write state_format (record { core = k; input = i }) b 0 ≡ write input_format i (write core_format k b 0) core_size
  unfolding state_format write
  core_then_input k i =
      let place : 0 + core_format.size ≡ core_size = omega (arith, core_size_lem) in
      write_then core_steps.laws input_format (k, i) b 0 (omega (arith, core_size_lem))
      ∙ ap (write input_format i (write core_format k b 0)) place

  pub core_alone : Bytes b → (k : Core) → write state_format (record { core = k; input = held_in b }) b 0 ≡ write core_format k b 0
  core_alone o k =
      core_then_input k (held_in b)
      ∙ kept input_steps.laws b (write core_format k b 0) core_size o (omega (arith, input_size_lem)) (length_write core_steps.laws k b 0 (omega (arith, core_size_lem)))
      (drop_write core_steps.laws k b 0 core_size (omega (arith, core_size_lem)) (omega (arith, core_size_lem)))
