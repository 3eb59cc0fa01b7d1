-- Padding: a UI value without it is its front, and a UID, which has no 0, is read back with or without it.
-- Assumes nothing.
use Prim.Native.Nat.{ℕ, ◌-◌, ◌<◌, ◌≤◌}
use mathlib.Core.Path.{◌≡◌, refl, ap, ◌∙◌}
use mathlib.Core.Bool.{true}
use mathlib.Core.List.{List, [], ◌∷◌, ◌++◌}
use native.Mathlib.Omega.{arith}
use lib.Dec.{eqb, leb}
use lib.ListN.{length, get_or, take, length-append, length-take}
use lib.Seq.{take-length, take-append_seam, get_or-append_seam, length-take-le}
use borrow.Author.Tests.{eq-eqb, ne_eqb}
use Rattle.choice.proofs.Picks.{pick_cases, both_true}
use Rattle.uids.specs.Uids.{components, is_uid, unpadded}
use Rattle.uids.proofs.Components.{components_solid, solid_at}

module _ (v : List ℕ) where
  pub unpadded_one : get_or v (length v - 1) 0 ≡ 0 → unpadded v ≡ take (length v - 1) v
  unfolding unpadded
  unpadded_one e = rw (eq-eqb _ 0 e)

  pub unpadded_none : (get_or v (length v - 1) 0 ≡ 0 → ⊥) → unpadded v ≡ v
  unfolding unpadded
  unpadded_none n = rw (ne_eqb _ 0 n)

  -- what is left without padding is the front of as many characters
  pub unpadded_front : take (length (unpadded v)) v ≡ unpadded v
  unfolding unpadded
  unpadded_front =
      pick_cases (λ u. take (length u) v ≡ u) (eqb (get_or v (length v - 1) 0) 0) (take (length v - 1) v) v
      (λ e. ap (λ n. take n v) (length-take-le (length v - 1) v (omega arith)))
      (λ e. take-length v)

  pub unpadded_short : length (unpadded v) ≤ length v
  unpadded_short = let e = simp length-take at (ap length unpadded_front) in omega arith

-- no character of a UID is 0
pub uid_solid : (u : List ℕ) → is_uid u ≡ true → (i : ℕ) → i < length u → get_or u i 0 ≡ 0 → ⊥
unfolding is_uid
uid_solid u e = solid_at u (components_solid [] u (both_true (leb (length u) _) (components [] u) e).1)

-- the padding is taken off
pub unpadded_padded : (u : List ℕ) → unpadded (u ++ (0 ∷ [])) ≡ u
unpadded_padded u =
    let e : length (u ++ (0 ∷ [])) - 1 ≡ length u = omega (arith, length-append u (0 ∷ [])) in
    unpadded_one (u ++ (0 ∷ [])) (ap (λ n. get_or (u ++ (0 ∷ [])) n 0) e ∙ get_or-append_seam u 0 [] 0)
    ∙ ap (λ n. take n (u ++ (0 ∷ []))) e ∙ take-append_seam u (0 ∷ [])

-- and a UID without padding stays
pub unpadded_uid : (u : List ℕ) → is_uid u ≡ true → unpadded u ≡ u
unfolding unpadded
unpadded_uid [] e = refl
unpadded_uid (c ∷ u) e = unpadded_none (c ∷ u) (uid_solid (c ∷ u) e (length (c ∷ u) - 1) (omega arith))
