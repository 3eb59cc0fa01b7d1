-- What is not there stands in zeros: so a closed association and no message are written.
-- Assumes nothing.
use Prim.Native.Nat.{ℕ, ◌-◌, ◌≤◌}
use mathlib.Core.Path.{◌≡◌, refl, sym, ap, ◌∙◌}
use mathlib.Core.List.{List, [], ◌++◌}
use native.Mathlib.Omega.{arith}
use lib.ListN.{length, take, drop, replicate, length-drop}
use lib.Seq.{length-take-le}
use borrow.Rule.Slice.PartMut.{put_mid, mid_of}
use Rattle.std.proofs.lemmas.List.{length-replicate, drop-drop}
use Rattle.octets.specs.Octets.{octets, laid, Bytes}
use Rattle.octets.proofs.Laid.{laid_then, length_laid}
use Rattle.fields.specs.Format.{write, array, bytes_all}
use Rattle.fields.proofs.Laws.{write_read}
use Rattle.strike.specs.Machine.{idle}
use Rattle.rules.specs.declared.Opened.{Opened}
use Rattle.rules.specs.declared.Core.{Core}
use Rattle.rules.specs.Bounds.{most_sessions}
use Rattle.rules.specs.Layout.{numbers_size, session_size, shelf_size, opened_size, input_size, core_size, records_size, core_format, session_format, name_format, serial_format, shelf_format, film_format, layout_format, box_format, picture_format, opened_format, input_format, pack}
use Rattle.rules.specs.Records.{no_sessions, shelved, not_open}
use Rattle.rules.specs.Calls.{with_opened, closed}
use Rattle.rules.specs.Outcomes.{input_held, written}
use Rattle.rules.proofs.Sizes.{core_size_lem, numbers_size_lem, queue_size_lem}
use Rattle.rules.proofs.Steps.{numbers_steps, queue_steps, core_steps}
use Rattle.records.specs.Places.{shelf_place, queue_place, opened_place, core_in}
use Rattle.records.proofs.Parts.{core_numbers, core_queue}
use Rattle.records.proofs.Alone.{drop_laid, kept, core_then_input, opened_alone}

-- A part filled with zeros.

pub zeros_laid : (s ys : List ℕ) (from end : ℕ) → from ≤ end → end ≤ length s → ys ≡ replicate (length (mid_of from (end - from) s)) 0
    → put_mid from (end - from) s ys ≡ laid s from (replicate (end - from) 0)
zeros_laid s ys from end h l e =
    let n : length (mid_of from (end - from) s) ≡ end - from = length-take-le (end - from) (drop from s) (omega (arith, length-drop from s)) in
    rw (e, n, length-replicate {A = ℕ} (end - from) 0) (ap (λ (z : List ℕ). take from s ++ (replicate (end - from) 0 ++ z)) (drop-drop (end - from) from s))

-- The bytes of what is not there.

no_sessions_lem : (array most_sessions session_format).bytes no_sessions ≡ replicate session_size 0
unfolding session_format name_format serial_format bytes_all octets
no_sessions_lem = refl

no_films : shelf_format.bytes (shelved []) ≡ replicate shelf_size 0
unfolding shelved shelf_format film_format name_format serial_format layout_format box_format picture_format bytes_all octets
no_films = refl

not_open_lem : opened_format.bytes not_open ≡ replicate opened_size 0
unfolding opened_format octets
not_open_lem = refl

no_message : input_format.bytes (input_held idle) ≡ replicate input_size 0
unfolding input_held input_format bytes_all octets
no_message = refl

pub no_input_written : (b : List ℕ) → laid b core_size (replicate (records_size - core_size) 0) ≡ write input_format (input_held idle) b core_size
unfolding write
no_input_written b = ap (laid b core_size) (sym no_message)

module _ (b : List ℕ) (long : records_size ≤ length b) where
  -- a core, and no message half collected
  pub core_written_lem : (k : Core) → write input_format (input_held idle) (write core_format k b 0) core_size ≡ written (record { core = k; input = idle }) b
  unfolding written pack write
  core_written_lem k = sym (core_then_input b long k (input_held idle))

  module _ (o : Bytes b) where
    pub open_written : (x : Opened) → write input_format (input_held idle) (write opened_format x b opened_place) core_size ≡ written (record { core = with_opened x (core_in b); input = idle }) b
    open_written x = ap (λ (s : List ℕ). write input_format (input_held idle) s core_size) (sym (opened_alone b o long x)) ∙ core_written_lem (with_opened x (core_in b))

    -- session and films, and what open fixed
    module _ (m : List ℕ) (em : m ≡ laid b numbers_size (replicate (queue_place - numbers_size) 0)) where
      same_length : length m ≡ length b
      same_length = ap length em ∙ length_laid b numbers_size (replicate (queue_place - numbers_size) 0) (omega arith)

      same_behind : drop queue_place m ≡ drop queue_place b
      same_behind = ap (drop queue_place) em ∙ drop_laid b numbers_size queue_place (replicate (queue_place - numbers_size) 0) (omega arith) (omega arith)

      dropped : write shelf_format (shelved []) (write (array most_sessions session_format) no_sessions b numbers_size) shelf_place ≡ m
      unfolding write
      dropped =
          rw (no_sessions_lem, no_films)
          (laid_then b numbers_size (replicate session_size 0) (omega arith) (replicate shelf_size 0) ∙ sym em)

      closed_core : write core_format (closed (core_in b)) b 0 ≡ write opened_format not_open m opened_place
      unfolding closed core_steps
      closed_core =
          core_steps.same (closed (core_in b)) b 0 (omega (arith, core_size_lem))
          ∙ rw (core_numbers b, core_queue b, write_read numbers_steps.laws b 0 o (omega (arith, numbers_size_lem)), dropped, kept queue_steps.laws b m queue_place o (omega (arith, queue_size_lem)) same_length same_behind)

      pub closed_written : (n : List ℕ) → n ≡ laid m opened_place (replicate (records_size - opened_place) 0) → n ≡ written (record { core = closed (core_in b); input = idle }) b
      unfolding write
      closed_written n en =
          en
          ∙ sym (laid_then m opened_place (replicate opened_size 0) (omega (arith, same_length)) (replicate input_size 0))
          ∙ ap (λ (z : List ℕ). laid (laid m opened_place z) core_size (replicate input_size 0)) (sym not_open_lem)
          ∙ ap (laid (laid m opened_place (opened_format.bytes not_open)) core_size) (sym no_message)
          ∙ ap (λ (s : List ℕ). write input_format (input_held idle) s core_size) (sym closed_core)
          ∙ core_written_lem (closed (core_in b))
