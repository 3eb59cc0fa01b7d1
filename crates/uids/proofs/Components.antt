-- Components: behind a dot others begin, digits alone are one, and none of their characters is 0.
-- Assumes nothing.
use Prim.Native.Nat.{ℕ, zero, suc, ◌<◌}
use mathlib.Core.Path.{◌≡◌, refl, ap, ◌∙◌}
use mathlib.Core.Bool.{Bool, true, false}
use mathlib.Core.List.{List, [], ◌∷◌, ◌++◌, append-nil, append_assoc}
use native.Mathlib.Omega.{arith}
use lib.Dec.{eqb, leb}
use lib.ListN.{length, get_or}
use borrow.Author.Tests.{leb-true, eqb-true, ne_eqb}
use Rattle.choice.specs.Pick.{pick, both, either, not}
use Rattle.choice.proofs.Picks.{both_true}
use Rattle.uids.specs.Uids.{digits, component, components}

spread : (t x y z w : Bool) → pick t (both x (both y w)) (both z w) ≡ both (pick t (both x y) z) w
spread true true y z w = refl
spread true false y z w = refl
spread false x y z w = refl

-- both sides of a dot
pub components_joined : (front a b : List ℕ) → components front (a ++ (46 ∷ b)) ≡ both (components front a) (components [] b)
unfolding components
components_joined front [] b = refl
components_joined front (c ∷ a) b =
    rw (components_joined [] a b, components_joined (front ++ (c ∷ [])) a b)
    (spread (eqb c 46) (component front) (components [] a) (components (front ++ (c ∷ [])) a) (components [] b))

digit_above : (c : ℕ) (ds : List ℕ) → digits (c ∷ ds) ≡ true → (47 < c) × (digits ds ≡ true)
unfolding digits
digit_above c ds e =
    let t = both_true (both (leb 48 c) (leb c 57)) (digits ds) e in
    let k = leb-true 48 c (both_true (leb 48 c) (leb c 57) t.0).0 in
    (omega arith, t.1)

-- digits have no dot
pub components_one : (front ds : List ℕ) → digits ds ≡ true → components front ds ≡ component (front ++ ds)
unfolding components
components_one front [] e = rw append-nil
components_one front (c ∷ ds) e =
    let d = digit_above c ds e in
    rw (ne_eqb c 46 (λ z. omega (arith, d.0))) (components_one (front ++ (c ∷ [])) ds d.1 ∙ ap component (append_assoc front (c ∷ []) ds))

-- no character is 0
abbrev Solid : List ℕ → Type 0
Solid [] = Unit {0}
Solid (c ∷ s) = (c ≡ 0 → ⊥) × Solid s

solid_append : (a b : List ℕ) → Solid a → Solid b → Solid (a ++ b)
solid_append [] b h k = k
solid_append (c ∷ a) b h k = (h.0, solid_append a b h.1 k)

pub solid_at : (s : List ℕ) → Solid s → (i : ℕ) → i < length s → get_or s i 0 ≡ 0 → ⊥
solid_at [] h i k e = omega arith
solid_at (c ∷ s) h zero k e = h.0 e
solid_at (c ∷ s) h (suc i) k e = solid_at s h.1 i (omega arith) e

digits_solid : (s : List ℕ) → digits s ≡ true → Solid s
digits_solid [] e = tt
digits_solid (c ∷ s) e = let d = digit_above c s e in (λ z. omega (arith, d.0), digits_solid s d.1)

component_solid : (s : List ℕ) → component s ≡ true → Solid s
unfolding component
component_solid s e =
    digits_solid s (both_true (digits s) (either (eqb (length s) 1) (not (eqb (get_or s 0 0) 48))) (both_true (not (eqb (length s) 0)) _ e).1).0

pub components_solid : (front s : List ℕ) → components front s ≡ true → Solid (front ++ s)
unfolding components
components_solid front [] e = rw append-nil (component_solid front e)
components_solid front (c ∷ s) e = cases (eqb c 46) refl e (λ d. components_solid [] s d) (λ d. components_solid (front ++ (c ∷ [])) s d)
  where
    cases : (t : Bool) → eqb c 46 ≡ t → pick t (both (component front) (components [] s)) (components (front ++ (c ∷ [])) s) ≡ true
        → (components [] s ≡ true → Solid s)
        → (components (front ++ (c ∷ [])) s ≡ true → Solid ((front ++ (c ∷ [])) ++ s))
        → Solid (front ++ (c ∷ s))
    cases true z d next on =
        let b = both_true (component front) (components [] s) d in
        solid_append front (c ∷ s) (component_solid front b.0) (λ y. omega (arith, eqb-true c 46 z), next b.1)
    cases false z d next on = rw (append_assoc front (c ∷ []) s) at (on d)
