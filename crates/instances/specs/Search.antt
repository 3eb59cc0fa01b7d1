-- A search of a list.
use Rattle.std.specs.Prelude.{ℕ, Bool, List, Option, Some, None}
use Rattle.choice.specs.Pick.{pick}
use Rattle.rules.specs.Lists.{any, place_of}

-- the first place whose element passes the test, if any does
abbrev pub first_place : {A : Type 0} → (A → Bool) → List A → Option ℕ
first_place test xs = pick (any test xs) (Some (place_of test xs)) None
