-- The number of a refused call is not 0, that of a call that is done; the front of what is lent keeps the rules where all of it does.
-- Assumes nothing.
use Prim.Native.Nat.{ℕ, ◌≤◌}
use mathlib.Core.Path.{◌≡◌, ap, ◌∙◌}
use mathlib.Core.Bool.{Bool}
use mathlib.Core.List.{List}
use native.Mathlib.Omega.{arith}
use lib.ListN.{length, take}
use Rattle.octets.specs.Octets.{Bytes}
use Rattle.rules.specs.declared.Refusal.{Refusal}
use Rattle.rules.specs.declared.Refusal.TheVariants.{Broken, Short, BadArgument, NotOpen, BadFragment, QueueEmpty}
use Rattle.rules.specs.Failures.{number_of}
use Rattle.rules.specs.Layout.{records_size, unpack}
use Rattle.rules.specs.Sound.{sound}
use Rattle.runs.proofs.Longer.{unpacked_alone}

pub not_done : (refusal : Refusal) → number_of refusal ≡ 0 → ⊥
not_done Broken e = omega (arith, e)
not_done Short e = omega (arith, e)
not_done BadArgument e = omega (arith, e)
not_done NotOpen e = omega (arith, e)
not_done BadFragment e = omega (arith, e)
not_done QueueEmpty e = omega (arith, e)

pub front_sound : (s front : List ℕ) → Bytes s → records_size ≤ length s → front ≡ take records_size s → (r : Bool) → r ≡ sound (unpack front) → r ≡ sound (unpack s)
front_sound s front o h e r told = told ∙ ap (λ b. sound (unpack b)) e ∙ ap sound (unpacked_alone s o h)
