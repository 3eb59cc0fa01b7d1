-- Tests of every element of a list, and of any; places.
use Rattle.std.specs.Prelude.{ℕ, zero, suc, ◌+◌, ◌-◌, Bool, true, false, List, [], ◌∷◌, ◌++◌, length, take, drop, replicate}
use Rattle.choice.specs.Pick.{pick, both, either}

unfoldable pub every : {A : Type 0} → (A → Bool) → List A → Bool
every test [] = true
every test (x ∷ xs) = both (test x) (every test xs)

unfoldable pub any : {A : Type 0} → (A → Bool) → List A → Bool
any test [] = false
any test (x ∷ xs) = either (test x) (any test xs)

-- the first place whose element passes the test; the list's length where none does
unfoldable pub place_of : {A : Type 0} → (A → Bool) → List A → ℕ
place_of test [] = 0
place_of test (x ∷ xs) = pick (test x) 0 (suc (place_of test xs))

-- no two elements are alike
unfoldable pub apart : {A : Type 0} → (A → A → Bool) → List A → Bool
apart alike [] = true
apart alike (x ∷ xs) = both (every (λ y. pick (alike x y) false true) xs) (apart alike xs)

unfoldable pub sum : List ℕ → ℕ
sum [] = 0
sum (x ∷ xs) = x + sum xs

-- the numbers from one on, as many as are asked for
unfoldable pub from : ℕ → ℕ → List ℕ
from n zero = []
from n (suc k) = n ∷ from (n + 1) k

-- what each of the first places has
abbrev pub up_to : {A : Type 0} → ℕ → (ℕ → A) → List A
up_to zero f = []
up_to (suc n) f = f 0 ∷ up_to n (λ i. f (suc i))

-- those that pass the test
unfoldable pub those : {A : Type 0} → (A → Bool) → List A → List A
those test [] = []
those test (x ∷ xs) = pick (test x) (x ∷ those test xs) (those test xs)

-- a list, filled to so many places
abbrev pub filled_to : {A : Type 0} → ℕ → A → List A → List A
filled_to n blank xs = xs ++ replicate (n - length xs) blank

-- a list without the element at a place
abbrev pub without : {A : Type 0} → ℕ → List A → List A
without i xs = take i xs ++ drop (suc i) xs
