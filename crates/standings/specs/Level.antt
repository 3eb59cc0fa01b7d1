-- The number of a severity: the worse, the greater.
use Rattle.std.specs.Prelude.{ℕ}
use Rattle.standings.specs.declared.Severity.{Severity}
use Rattle.standings.specs.declared.Severity.TheVariants.{Allowed, Wrong, Empty, Missing}

abbrev pub level : Severity → ℕ
level Allowed = 0
level Wrong = 1
level Empty = 2
level Missing = 3
