-- What a call writes over good records is good: bytes, no fewer than before, in which the records keep their rules.
-- Assumes nothing.
use mathlib.Core.Path.{◌≡◌, ap, ◌∙◌, subst}
use mathlib.Core.Bool.{true}
use mathlib.Core.List.{List, ◌++◌}
use Prim.Native.Nat.{ℕ, ◌+◌, ◌≤◌}
use native.Mathlib.Omega.{arith}
use lib.ListN.{length, take, drop}
use Rattle.choice.proofs.Picks.{both_holds}
use Rattle.octets.specs.Octets.{Bytes, laid}
use Rattle.octets.proofs.Laid.{length_laid}
use Rattle.fields.specs.Format.{write}
use Rattle.fields.proofs.Laws.{read_write}
use Rattle.strike.specs.Service.{Call}
use Rattle.strike.specs.Machine.{Records}
use Rattle.strike.proofs.Lies.{Lies}
use Rattle.rules.specs.declared.Core.{Core}
use Rattle.rules.specs.declared.State.{State}
use Rattle.rules.specs.Layout.{state_format, records_size, unpack, pack}
use Rattle.rules.specs.Sound.{core_sound, input_sound, sound}
use Rattle.rules.specs.Calls.{handed}
use Rattle.rules.specs.Outcomes.{records_in, written, core_written}
use Rattle.rules.proofs.Sizes.{records_size_lem}
use Rattle.promises.proofs.ListLaws.{each_or, each_append, each_take, each_drop}
use Rattle.promises.proofs.Packed.{state_laws}
use Rattle.promises.proofs.Sized.{Sized}
use Rattle.promises.proofs.SizedSteps.{step_sized}
use Rattle.promises.proofs.Kept.{state_of, sound_parts}
use Rattle.promises.proofs.Good.{Byte, good_core, good_state, bytes_each}
use Rattle.promises.proofs.Unpacked.{unpacked_good, unpacked_sized, CallBytes}
use Rattle.promises.proofs.Next.{after_call, after_sound, after_fits, next_records}

-- bytes, enough of them, in which the records keep their rules
pub record RecordsGood (b : List ℕ) : Type 0 where
  pub bytes : Bytes b
  pub long : records_size ≤ length b
  pub kept : sound (unpack b) ≡ true

laid_bytes : (b bytes : List ℕ) → Bytes b → Bytes bytes → Bytes (laid b 0 bytes)
laid_bytes b bytes o p i =
    let behind = drop (0 + length bytes) b in
    each_or Byte (laid b 0 bytes) i 0
    (each_append Byte (take 0 b) (bytes ++ behind) (each_take Byte 0 b (bytes_each b o))
    (each_append Byte bytes behind (bytes_each bytes p) (each_drop Byte (0 + length bytes) b (bytes_each b o))))
    (omega arith)

-- records that fit their fields and keep the rules, laid over any bytes
pub laid_good : (b : List ℕ) (s : State) → Bytes b → records_size ≤ length b → state_format.Good s → sound s ≡ true → RecordsGood (laid b 0 (pack s))
unfolding pack unpack write
laid_good b s o long fits e =
    let size : length (pack s) ≡ records_size = state_laws.sized s ∙ records_size_lem in
    let same : length (laid b 0 (pack s)) ≡ length b = length_laid b 0 (pack s) (omega arith) in
    record {
      bytes = laid_bytes b (pack s) o (state_laws.octet s fits);
      long = omega arith;
      kept = ap sound (read_write state_laws s b 0 fits (omega (arith, records_size_lem))) ∙ e;
    }

module _ (b message : List ℕ) (c : Call handed) (good : RecordsGood b) (bytes : CallBytes c) where
  written_good : RecordsGood (written (after_call b message c) b)
  unfolding written
  written_good =
      let e = after_sound b message c good.bytes bytes good.kept in
      laid_good b (state_of (after_call b message c)) good.bytes good.long
      (good_state (after_call b message c) (sound_parts (state_of (after_call b message c)) e).0
      (step_sized (records_in (unpack b) message) c (unpacked_sized b good.bytes))
      (after_fits b message c good.bytes bytes good.kept))
      e

  -- what a call leaves is good where it is written, and is what the next call has, with the data in the message buffer
  pub left_good : (r : Records Core) → after_call b message c ≡ r → RecordsGood (written r b)
  left_good r e = subst (λ (x : Records Core). RecordsGood (written x b)) e written_good

  pub left_view : (r : Records Core) (now : List ℕ) → after_call b message c ≡ r → Lies r.input now → records_in (unpack (written r b)) now ≡ r
  left_view r now e =
      subst (λ (x : Records Core). Lies x.input now → records_in (unpack (written x b)) now ≡ x) e
      (next_records b message c good.bytes bytes good.kept good.long now)

-- the same of another core alone
pub core_good : (b : List ℕ) (k : Core) → RecordsGood b → core_sound k ≡ true → Sized k → input_sound k.opened (unpack b).input ≡ true → RecordsGood (core_written k b)
unfolding core_written state_format sound
core_good b k good e z i =
    laid_good b (record { core = k; input = (unpack b).input }) good.bytes good.long
    (good_core k e z, (unpacked_good b good.bytes).1)
    (both_holds (core_sound k) (input_sound k.opened (unpack b).input) e i)
