-- The tests of a session's label, which stands in bytes behind its length.
use Rattle.std.specs.Prelude.{ℕ, ◌+◌, Bool, List, [], ◌∷◌, leb, get_or, take, drop}
use Rattle.octets.specs.Octets.{same}
use Rattle.fields.specs.Format.{byte, array}
use Rattle.rules.specs.Values.{trimmed, label_allowed}
use Rattle.rules.specs.Sound.{all, zeros}

abbrev pub label_tests : ℕ → List ℕ → List Bool
label_tests used label =
    leb used 64 ∷ label_allowed (take used label) ∷ same (trimmed (take used label)) (take used label) ∷ zeros (drop used label) ∷ []

abbrev pub label_sound : List ℕ → ℕ → Bool
label_sound b at = all (label_tests (get_or b at 0) ((array 64 byte).read b (at + 1)))
