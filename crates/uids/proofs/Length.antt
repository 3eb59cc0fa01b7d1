-- The length of a UID: 1 to 64 characters.
-- Assumes nothing.
use Prim.Native.Nat.{ℕ, ◌≤◌}
use mathlib.Core.Path.{◌≡◌, refl}
use mathlib.Core.Bool.{true}
use mathlib.Core.List.{List, [], ◌∷◌}
use native.Mathlib.Omega.{arith}
use lib.Dec.{leb}
use lib.ListN.{length}
use borrow.Author.Tests.{leb-true}
use Rattle.choice.proofs.Picks.{both_true, clash}
use Rattle.uids.specs.Uids.{component, components, is_uid}

pub uid_some : (u : List ℕ) → is_uid u ≡ true → length u ≡ 0 → ⊥
unfolding is_uid components component
uid_some [] e h = clash refl e
uid_some (c ∷ u) e h = omega (arith, h)

pub uid_short : (u : List ℕ) → is_uid u ≡ true → length u ≤ 64
unfolding is_uid
uid_short u e = leb-true (length u) 64 (both_true (leb (length u) 64) (components [] u) e).0
