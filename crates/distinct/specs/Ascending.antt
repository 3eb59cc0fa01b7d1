-- Serials in ascending order: how far they reach, each beginning at or behind the end of those before it.
use Rattle.std.specs.Prelude.{ℕ, ◌+◌, List, [], ◌∷◌, Option, Some, None, eqb, ltb}
use Rattle.std.specs.Option.{option_and_then}
use Rattle.choice.specs.Pick.{pick}
use Rattle.rules.specs.declared.Film.{Film}
use Rattle.rules.specs.Sound.{Serials, own_serial}
use Rattle.distinct.specs.Apart.{box_serials}

-- none are passed over, and those that begin before the end are not in order
abbrev pub reach : ℕ → Serials → Option ℕ
reach stop s = pick (eqb (s.from + s.count) 0) (Some stop) (pick (ltb s.from stop) None (Some (s.from + s.count)))

-- a film's own serial, then its boxes
abbrev pub film_reach : ℕ → Film → Option ℕ
film_reach stop f = option_and_then (λ n. reach n (box_serials f)) (reach stop (own_serial f.name))

unfoldable pub reaches : ℕ → List Serials → Option ℕ
reaches stop [] = Some stop
reaches stop (s ∷ others) = option_and_then (λ n. reaches n others) (reach stop s)
