-- The films where they lie in the records.
use Rattle.std.specs.Prelude.{ℕ, ◌+◌, ◌*◌, List, take}
use Rattle.rules.specs.declared.Film.{Film}
use Rattle.rules.specs.Layout.{film_size}
use Rattle.records.specs.Places.{shelf_place, shelf_in}

abbrev pub film_place : ℕ → ℕ
film_place i = shelf_place + 1 + i * film_size

-- those of the first n places
abbrev pub films_in : List ℕ → ℕ → List Film
films_in b n = take n (shelf_in b).films
