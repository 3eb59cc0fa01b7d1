-- What the code writes of the input is what a fragment comes to.
-- Assumes nothing.
use Prim.Native.Nat.{ℕ, ◌+◌, ◌≤◌, ◌<◌}
use mathlib.Core.Path.{◌≡◌, refl, sym, ap, subst, ◌∙◌}
use mathlib.Core.List.{List, [], ◌++◌}
use native.Mathlib.Omega.{arith}
use lib.ListN.{length, length-append}
use Rattle.octets.specs.Octets.{laid, Bytes}
use Rattle.fields.specs.Format.{write, byte, number}
use Rattle.strike.specs.Machine.{idle}
use Rattle.rules.specs.declared.Input.{Input}
use Rattle.rules.specs.Lists.{filled_to}
use Rattle.rules.specs.Layout.{input_format, core_size, records_size}
use Rattle.rules.specs.Outcomes.{held, input_held}
use Rattle.records.specs.Places.{held_in}
use Rattle.collecting.specs.declared.Collecting.{Collecting}
use Rattle.collecting.specs.declared.Collecting.TheVariants.{Idle, InCommand, SkippingCommand, InData, SkippingData}
use Rattle.collecting.specs.declared.Answer.{Answer}
use Rattle.collecting.specs.Collecting.{Collected, Filled, Met, number_of, command_before, holds, bare, waits_with}
use Rattle.collecting.proofs.Filled.{filled_append, held_filled}
use Rattle.collecting.proofs.Written.{bytes_append, filled_length, phase_put, used_put, got_put, command_put, held_good, holds_good, put, put_over, stays, before_bytes}

-- the same, of another value
pub met_as : {x y : Collected} {r : Answer} {b after : List ℕ} → x ≡ y → Met x r b after → Met y r b after
met_as {r} {b} {after} e m = subst (λ (z : Collected). Met z r b after) e m

-- over what another step wrote
pub met_over : (b : List ℕ) → records_size ≤ length b → {x y : Collected} {r q : Answer} {s after : List ℕ} → Met y q b s → Met x r s after → Met x r b after
met_over b h m n = record { told = n.told; put = put_over b h m.put n.put }

small : (s : Collecting) → number_of s < 256
small Idle = omega arith
small InCommand = omega arith
small SkippingCommand = omega arith
small InData = omega arith
small SkippingData = omega arith

module _ (b : List ℕ) (h : records_size ≤ length b) where
  pub nothing_met : (answer : Answer) (state : Collecting) (n : ℕ) (s after : List ℕ) → s ≡ write input_format (input_held idle) b core_size → n ≡ number_of state
      → after ≡ write byte n s core_size → Met (bare answer state) answer b after
  unfolding input_held
  nothing_met answer state n s after es en e =
      record {
        told = refl;
        put = put b h (held (number_of state) [] 0) after (held_good (number_of state) [] (small state) (λ i. omega arith) (omega arith)) (omega arith, refl) (e ∙ rw (es, en) (phase_put b h (held 0 [] 0) (number_of state)));
      }

  module _ (o : Bytes b) where
    pub holding_met : (answer : Answer) (state : Collecting) (got n : ℕ) (s after : List ℕ) → Filled (held_in b) → got < 4294967296 → n ≡ number_of state → s ≡ write byte n b core_size
        → after ≡ write (number 4) got s (core_size + 3) → Met (holds answer state (held_in b) got) answer b after
    holding_met answer state got n s after f g en es e =
        let i = held_in b in
        let j : Input = record { phase = number_of state; used = i.used; got = i.got; command = i.command } in
        let first : s ≡ write input_format j b core_size = es ∙ ap (λ (k : ℕ). write byte k b core_size) en ∙ ap (λ (x : List ℕ). write byte (number_of state) x core_size) (sym (stays b h o)) ∙ phase_put b h i (number_of state) in
        record {
          told = refl;
          put = put b h (holds answer state i got).input after (holds_good b o (number_of state) got (small state) g) f (e ∙ ap (λ (x : List ℕ). write (number 4) got x (core_size + 3)) first ∙ got_put b h j got);
        }

    -- a fragment's bytes behind a command
    pub gathered_met : (answer : Answer) (used : ℕ) (s t after bytes : List ℕ) → used ≡ length (command_before (held_in b)) → length (command_before (held_in b)) + length bytes ≤ 1024 → Bytes bytes
        → Met (waits_with (held 1 (command_before (held_in b)) 0)) answer b s → t ≡ laid s (core_size + 7 + used) bytes → after ≡ write (number 2) (used + length bytes) t (core_size + 1)
        → Met (waits_with (held 1 (command_before (held_in b) ++ bytes) 0)) answer b after
    gathered_met answer used s t after bytes eu f p m et e =
        let c = command_before (held_in b) in
        let all : Input = held 1 (c ++ bytes) 0 in
        let room : length (c ++ bytes) ≤ 1024 = omega (arith, length-append c bytes) in
        let j : Input = record { phase = 1; used = length c; got = 0; command = filled_to 1024 0 (c ++ bytes) } in
        let size : length (filled_to 1024 0 c) ≡ 1024 = filled_length c (omega arith) in
        let laid-there : t ≡ write input_format j b core_size =
        et ∙ ap (λ (n : ℕ). laid s (core_size + 7 + n) bytes) eu ∙ ap (λ (x : List ℕ). laid x (core_size + 7 + length c) bytes) m.put.bytes
        ∙ command_put b h (held 1 c 0) (length c) bytes size f
        ∙ ap (λ (x : List ℕ). write input_format (record { phase = 1; used = length c; got = 0; command = x }) b core_size) (filled_append 1024 c bytes f) in
        let count : used + length bytes ≡ length (c ++ bytes) = rw eu (sym (length-append c bytes)) in
        record {
          told = m.told;
          put = put b h all after (held_good 1 (c ++ bytes) (omega arith) (bytes_append c bytes (before_bytes b h o) p) room) (held_filled all (c ++ bytes) refl room)
              (e ∙ ap (λ (n : ℕ). write (number 2) n t (core_size + 1)) count ∙ ap (λ (x : List ℕ). write (number 2) (length (c ++ bytes)) x (core_size + 1)) laid-there ∙ used_put b h j (length (c ++ bytes)));
        }
