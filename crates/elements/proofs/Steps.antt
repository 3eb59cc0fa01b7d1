-- Walks: where each step goes on, any fuel above what is left gives the same answer.
-- Assumes nothing.
use mathlib.Core.Path.{◌≡◌, refl, ap}
use mathlib.Core.List.{List, [], ◌∷◌}
use Prim.Native.Nat.{ℕ, zero, suc, ◌-◌, ◌≤◌, ◌<◌}
use native.Mathlib.Omega.{arith}
use Rattle.std.specs.Prelude.{Result, Ok, Err}
use Rattle.elements.specs.declared.Stop.{Stop}
use Rattle.elements.specs.Walk.{Next, again, done, follow, walk, on_trail, trail}
use Rattle.elements.proofs.Within.{ReadIn, NextIn, AllIn}

pub lower : (low low' end : ℕ) (r : Result ℕ Stop) → low ≤ low' → ReadIn low' end r → ReadIn low end r
lower low low' end (Ok q) h g = (omega arith, g.1)
lower low low' end (Err stop) h g = g

follow_in : {S : Type 0} (place : S → ℕ) (low end : ℕ) (rest : S → Result ℕ Stop) (n : Next S) → ((y : S) → place y ≤ end → ReadIn (place y) end (rest y)) → NextIn place low end n → ReadIn low end (follow rest n)
follow_in place low end rest (again y) f g = lower low (place y) end (rest y) (omega arith) (f y g.1)
follow_in place low end rest (done r) f g = g

follow_same : {S : Type 0} (place : S → ℕ) (low end : ℕ) (f g : S → Result ℕ Stop) (n : Next S) → ((y : S) → low < place y → place y ≤ end → f y ≡ g y) → NextIn place low end n → follow f n ≡ follow g n
follow_same place low end f g (again y) same h = same y h.0 h.1
follow_same place low end f g (done r) same h = refl

on_trail_same : {S : Type 0} (place : S → ℕ) (low end : ℕ) (x : S) (f g : S → List S) (n : Next S) → ((y : S) → low < place y → place y ≤ end → f y ≡ g y) → NextIn place low end n → on_trail x f n ≡ on_trail x g n
on_trail_same place low end x f g (again y) same h = ap (λ l. x ∷ l) (same y h.0 h.1)
on_trail_same place low end x f g (done r) same h = refl

pub lower_all : {S : Type 0} (place : S → ℕ) (low low' end : ℕ) (xs : List S) → low ≤ low' → AllIn place low' end xs → AllIn place low end xs
lower_all place low low' end [] h g = tt
lower_all place low low' end (x ∷ xs) h g = ((omega arith, g.0.1), lower_all place low low' end xs h g.1)

on_trail_in : {S : Type 0} (place : S → ℕ) (end : ℕ) (x : S) (rest : S → List S) (n : Next S) → place x ≤ end → ((y : S) → place y ≤ end → AllIn place (place y) end (rest y)) → NextIn place (place x) end n → AllIn place (place x) end (on_trail x rest n)
on_trail_in place end x rest (again y) h f g = ((omega arith, h), lower_all place (place x) (place y) end (rest y) (omega arith) (f y g.1))
on_trail_in place end x rest (done r) h f g = tt

module _ {S : Type 0} (place : S → ℕ) (end : ℕ) (step : S → Next S) (good : (x : S) → place x ≤ end → NextIn place (place x) end (step x)) where
  pub walk_in : (k : ℕ) (x : S) → place x ≤ end → ReadIn (place x) end (walk step k x)
  unfolding walk
  walk_in zero x h = omega arith
  walk_in (suc k) x h = follow_in place (place x) end (λ y. walk step k y) (step x) (λ y g. walk_in k y g) (good x h)

  -- enough fuel is any fuel above what is left
  pub enough : (k m : ℕ) (x : S) → place x ≤ end → end - place x < k → end - place x < m → walk step k x ≡ walk step m x
  unfolding walk
  enough zero m x h a b = absurd (omega arith)
  enough (suc k) zero x h a b = absurd (omega arith)
  enough (suc k) (suc m) x h a b =
      follow_same place (place x) end (λ y. walk step k y) (λ y. walk step m y) (step x)
      (λ y l g. enough k m y g (omega arith) (omega arith)) (good x h)

  -- one step, and the walk from there
  pub unroll : (x : S) → place x ≤ end → walk step (suc (end - place x)) x ≡ follow (λ y. walk step (suc (end - place y)) y) (step x)
  unfolding walk
  unroll x h =
      follow_same place (place x) end (λ y. walk step (end - place x) y) (λ y. walk step (suc (end - place y)) y) (step x)
      (λ y l g. enough (end - place x) (suc (end - place y)) y g (omega arith) (omega arith)) (good x h)

  -- the same of the trail
  trail_enough : (k m : ℕ) (x : S) → place x ≤ end → end - place x < k → end - place x < m → trail step k x ≡ trail step m x
  unfolding trail
  trail_enough zero m x h a b = absurd (omega arith)
  trail_enough (suc k) zero x h a b = absurd (omega arith)
  trail_enough (suc k) (suc m) x h a b =
      on_trail_same place (place x) end x (λ y. trail step k y) (λ y. trail step m y) (step x)
      (λ y l g. trail_enough k m y g (omega arith) (omega arith)) (good x h)

  pub trail_unroll : (x : S) → place x ≤ end → trail step (suc (end - place x)) x ≡ on_trail x (λ y. trail step (suc (end - place y)) y) (step x)
  unfolding trail
  trail_unroll x h =
      on_trail_same place (place x) end x (λ y. trail step (end - place x) y) (λ y. trail step (suc (end - place y)) y) (step x)
      (λ y l g. trail_enough (end - place x) (suc (end - place y)) y g (omega arith) (omega arith)) (good x h)

  pub trail_in : (k : ℕ) (x : S) → place x ≤ end → AllIn place (place x) end (trail step k x)
  unfolding trail
  trail_in zero x h = tt
  trail_in (suc k) x h = on_trail_in place end x (λ y. trail step k y) (step x) h (λ y g. trail_in k y g) (good x h)
