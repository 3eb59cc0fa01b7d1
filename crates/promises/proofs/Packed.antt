-- Records and bytes are one to one: what is packed is unpacked, and what is unpacked is packed.
-- Assumes nothing.
use Prim.Native.Nat.{ℕ, ◌+◌, ◌-◌}
use mathlib.Core.Path.{◌≡◌, refl, sym, ◌∙◌}
use mathlib.Core.List.{List}
use native.Mathlib.Omega.{arith}
use lib.ListN.{length}
use lib.Seq.{take_all}
use Rattle.octets.specs.Octets.{part, Bytes}
use Rattle.octets.proofs.Laid.{stands_first}
use Rattle.fields.proofs.Laws.{Laws}
use Rattle.rules.specs.declared.State.{State}
use Rattle.rules.specs.Layout.{core_format, input_format, state_format, records_size, unpack, pack}
use Rattle.rules.proofs.Sizes.{records_size_lem}
use Rattle.rules.proofs.Steps.{core_steps, state_steps}

pub core_laws : Laws core_format
core_laws = core_steps.laws

pub state_laws : Laws state_format
state_laws = state_steps.laws

-- all of a list, from its start
pub from_start : (b : List ℕ) (n : ℕ) → length b ≡ n → part b 0 (0 + n) ≡ b
from_start b n e = let k : 0 + n - 0 ≡ n = omega arith in rw k (take_all n b (omega arith))

-- records of numbers that fit their fields
pub unpack_pack : (s : State) → state_format.Good s → unpack (pack s) ≡ s
unfolding unpack pack
unpack_pack s g = state_laws.back s (pack s) 0 g (from_start (pack s) (length (pack s)) refl)

-- any bytes, as many as the records have
pub pack_unpack : (b : List ℕ) → Bytes b → length b ≡ records_size → pack (unpack b) ≡ b
unfolding unpack pack
pack_unpack b o e =
    let f : state_format.size ≡ length b = records_size_lem ∙ sym e in
    state_laws.forth b 0 o (omega (arith, f)) ∙ from_start b state_format.size (sym f)
