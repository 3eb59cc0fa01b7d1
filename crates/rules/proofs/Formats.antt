-- A format's numbers, counted by its text's characters.
-- Assumes nothing.
use Prim.Native.Nat.{ℕ, suc, ◌*◌}
use mathlib.Core.Path.{◌≡◌, refl}
use mathlib.Core.Bool.{true, false≢true}
use mathlib.Core.List.{List, [], ◌∷◌}
use native.Mathlib.Omega.{arith}
use lib.Dec.{eqb}
use lib.ListN.{length}
use Rattle.choice.proofs.Picks.{both_true}
use Rattle.rules.specs.Values.{one_to_six, listed, numbers_in}

-- numbers with a comma between two are one more than the commas
pub listed_length : (t : List ℕ) → listed t ≡ true → suc (length t) ≡ 2 * length (numbers_in t)
unfolding listed numbers_in
listed_length [] e = absurd (false≢true e)
listed_length (d ∷ []) e = refl
listed_length (d ∷ (c ∷ ds)) e =
    let n = listed_length ds (both_true (eqb c 0x2C) (listed ds) (both_true (one_to_six d) _ e).1).1 in
    omega arith
