-- The number that the rest of an IS gives behind its front, 0 where it is no digits or more than `most`.
use Rattle.std.specs.Prelude.{ℕ, List, leb}
use Rattle.choice.specs.Pick.{pick, both}
use Rattle.uids.specs.Uids.{digits}
use Rattle.rules.specs.Values.{decimal_value}

unfoldable pub counted : ℕ → ℕ → List ℕ → ℕ
counted most front s = pick (both (digits s) (leb (decimal_value front s) most)) (decimal_value front s) 0
