-- Where the length of the command that is held stands.
use Rattle.std.specs.Prelude.{ℕ, ◌+◌}
use Rattle.rules.specs.Layout.{core_size}

abbrev pub used_place : ℕ
used_place = core_size + 1
