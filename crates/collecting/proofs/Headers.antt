-- The header of a fragment, test by test.
-- Assumes nothing.
use Prim.Native.Nat.{ℕ, ◌+◌, ◌-◌, ◌≤◌, ◌<◌, ◌/◌}
use mathlib.Core.Path.{◌≡◌}
use mathlib.Core.Logic.{◌≢◌}
use mathlib.Core.Bool as bool
use mathlib.Core.Bool.{true}
use mathlib.Core.List.{List}
use native.Mathlib.Omega.{arith}
use lib.ListN.{length}
use borrow.Author.Tests.{lt-ltb, le-ltb, eq-eqb, ne_eqb}
use lib.Dec.{eqb}
use Rattle.choice.proofs.Picks.{nots}
use Rattle.strike.specs.Machine.{length_told, context_byte, control_byte, header_wrong}

module _ (context : ℕ) (bytes : List ℕ) where
  pub too_short : length bytes < 6 → true ≡ header_wrong context bytes
  unfolding header_wrong
  too_short h = simp (lt-ltb (length bytes) 6 h)

  module _ (h : 6 ≤ length bytes) where
    pub told_small : length_told bytes < 2 → true ≡ header_wrong context bytes
    unfolding header_wrong
    told_small l = simp (le-ltb (length bytes) 6 h, lt-ltb (length_told bytes) 2 l)

    module _ (l : 2 ≤ length_told bytes) where
      pub told_other : length_told bytes ≢ length bytes - 4 → true ≡ header_wrong context bytes
      unfolding header_wrong
      told_other ne = simp (le-ltb (length bytes) 6 h, le-ltb (length_told bytes) 2 l, ne_eqb (length_told bytes + 4) (length bytes) (λ e. ne (omega arith)))

      module _ (t : length_told bytes ≡ length bytes - 4) where
        all : length_told bytes + 4 ≡ length bytes
        all = omega arith

        pub context_other : context_byte bytes ≢ context → true ≡ header_wrong context bytes
        unfolding header_wrong
        context_other ne = simp (le-ltb (length bytes) 6 h, le-ltb (length_told bytes) 2 l, eq-eqb (length_told bytes + 4) (length bytes) all, ne_eqb (context_byte bytes) context ne)

        pub control_told : context_byte bytes ≡ context → bool.not (eqb (control_byte bytes / 4) 0) ≡ header_wrong context bytes
        unfolding header_wrong
        control_told e =
            simp (le-ltb (length bytes) 6 h, le-ltb (length_told bytes) 2 l, eq-eqb (length_told bytes + 4) (length bytes) all, eq-eqb (context_byte bytes) context e, nots)
