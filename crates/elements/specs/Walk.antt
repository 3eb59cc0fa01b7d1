-- Steps that are taken one after the other until one ends the walk.
use Rattle.std.specs.Prelude.{ℕ, zero, suc, List, [], ◌∷◌, Result, Ok, Err}
use Rattle.elements.specs.declared.Stop.{Stop}

-- what a step says: go on from here, or end with an answer
pub data Next (S : Type 0) : Type 0 where
  again : S → Next S
  done : Result ℕ Stop → Next S

-- a part was read: go on from the place after it, or hand its refusal on
abbrev pub onward : {S : Type 0} → Result ℕ Stop → (ℕ → S) → Next S
onward (Ok q) from = again (from q)
onward (Err stop) from = done (Err stop)

-- what follows a step, where `rest` is the walk from a further place
abbrev pub follow : {S : Type 0} → (S → Result ℕ Stop) → Next S → Result ℕ Stop
follow rest (again x) = rest x
follow rest (done r) = r

-- at most `fuel` steps; that any fuel above the bytes left gives the same is proved (proofs/Steps.antt)
unfoldable pub walk : {S : Type 0} → (S → Next S) → ℕ → S → Result ℕ Stop
walk step zero x = Err (record { number = 0; place = 0; depth = 0 })
walk step (suc fuel) x = follow (λ y. walk step fuel y) (step x)

-- the states from which a walk went on
abbrev pub on_trail : {S : Type 0} → S → (S → List S) → Next S → List S
on_trail x rest (again y) = x ∷ rest y
on_trail x rest (done r) = []

unfoldable pub trail : {S : Type 0} → (S → Next S) → ℕ → S → List S
trail step zero x = []
trail step (suc fuel) x = on_trail x (λ y. trail step fuel y) (step x)
