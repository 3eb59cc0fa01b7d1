-- The input written alone leaves the bytes that all records packed would; what is packed over it does not know of it.
-- Assumes nothing.
use Prim.Native.Nat.{ℕ, ◌+◌, ◌-◌, ◌≤◌}
use mathlib.Core.Path.{◌≡◌, sym, ap, ◌∙◌}
use mathlib.Core.List.{List, ◌++◌}
use native.Mathlib.Omega.{arith}
use lib.ListN.{length, get_or, take}
use lib.Seq.{take_at, length-take-le}
use Rattle.octets.specs.Octets.{laid, Bytes}
use Rattle.octets.proofs.Laid.{laid_then}
use Rattle.fields.specs.Format.{write}
use Rattle.fields.proofs.Laws.{write_read}
use Rattle.strike.specs.Machine.{Records}
use Rattle.rules.specs.declared.Core.{Core}
use Rattle.rules.specs.declared.Input.{Input}
use Rattle.rules.specs.declared.State.{State}
use Rattle.rules.specs.Layout.{core_format, opened_format, input_format, state_format, core_size, records_size, unpack, pack}
use Rattle.rules.specs.Outcomes.{written}
use Rattle.rules.proofs.Sizes.{core_size_lem, input_size_lem, records_size_lem}
use Rattle.rules.proofs.Steps.{input_steps}
use Rattle.records.specs.Places.{opened_place, core_in}
use Rattle.records.proofs.Parts.{unpack_core, core_opened}
use Rattle.records.proofs.Alone.{drop_write}
use Rattle.promises.proofs.Packed.{core_laws, state_laws}
use Rattle.feeding.specs.Feeding.{input_written}

module _ (b : List ℕ) (i : Input) (o : Bytes b) (h : records_size ≤ length b) where
  core_stays : laid b 0 (core_format.bytes (core_format.read b 0)) ≡ b
  unfolding write
  core_stays = write_read core_laws b 0 o (omega (arith, core_size_lem, h))

  at_input : 0 + length (core_format.bytes (core_format.read b 0)) ≡ core_size
  at_input = omega (arith, core_laws.sized (core_format.read b 0), core_size_lem)

  pub input_alone : write input_format i b core_size ≡ input_written i b
  unfolding write input_written unpack pack state_format
  input_alone =
      ap (λ (n : ℕ). laid b n (input_format.bytes i)) (sym at_input)
      ∙ ap (λ (s : List ℕ). laid s (0 + length (core_format.bytes (core_format.read b 0))) (input_format.bytes i)) (sym core_stays)
      ∙ laid_then b 0 (core_format.bytes (core_format.read b 0)) (omega (arith, at_input, h)) (input_format.bytes i)

-- another core, and then no input, is all that the records hold
pub core_and_input : (b : List ℕ) (k : Core) (i : Input) → records_size ≤ length b → write input_format i (write core_format k b 0) core_size ≡ laid b 0 (pack (record { core = k; input = i }))
unfolding write pack state_format
core_and_input b k i h =
    let size : 0 + length (core_format.bytes k) ≡ core_size = omega (arith, core_laws.sized k, core_size_lem) in
    ap (λ (n : ℕ). laid (laid b 0 (core_format.bytes k)) n (input_format.bytes i)) (sym size)
    ∙ laid_then b 0 (core_format.bytes k) (omega (arith, size, h)) (input_format.bytes i)

-- What open fixed, where it stands.

module _ (b : List ℕ) where
  pub live_in : (core_in b).opened.live ≡ get_or b opened_place 0
  unfolding opened_format
  live_in = ap (λ x. x.live) (core_opened b)

  pub context_in : (core_in b).opened.context ≡ get_or b (opened_place + 1) 0
  unfolding opened_format
  context_in = ap (λ x. x.context) (core_opened b)

-- With another input the core is the same, and so is what is packed over all.

module _ (b : List ℕ) (i : Input) (o : Bytes b) (h : records_size ≤ length b) where
  abbrev other : List ℕ
  other = write input_format i b core_size

  front : take core_size other ≡ take core_size b
  unfolding write
  front = take_at (take core_size b) _ core_size (length-take-le core_size b (omega arith))

  pub core_kept : core_in other ≡ core_in b
  core_kept =
      let k = core_in b in
      let size : 0 + length (core_format.bytes k) - 0 ≡ core_size = omega (arith, core_laws.sized k, core_size_lem) in
      let all : 0 + core_format.size - 0 ≡ core_size = omega (arith, core_size_lem) in
      let stands : take core_size other ≡ core_format.bytes k = front ∙ sym (core_laws.forth b 0 o (omega (arith, core_size_lem)) ∙ rw all) in
      core_laws.back k other 0 (core_laws.good b 0 o) (rw size stands)

  packed_over : (s : State) → laid other 0 (pack s) ≡ laid b 0 (pack s)
  unfolding pack
  packed_over s =
      let size = state_laws.sized s ∙ records_size_lem in
      ap (λ (x : List ℕ). pack s ++ x) (drop_write input_steps.laws i b core_size (0 + length (pack s)) (omega (arith, input_size_lem)) (omega (arith, input_size_lem, size)))

  pub written_over : (r : Records Core) → written r other ≡ written r b
  unfolding written
  written_over r = packed_over _

  pub input_over : (j : Input) → input_written j other ≡ input_written j b
  unfolding input_written
  input_over j =
      ap (λ (k : Core). laid other 0 (pack (record { core = k; input = j }))) (unpack_core other ∙ core_kept ∙ sym (unpack_core b))
      ∙ packed_over (record { core = (unpack b).core; input = j })
