-- Records that no call refuses: they are long enough, and sound.
-- Assumes nothing.
use Prim.Native.Nat.{ℕ, ◌≤◌}
use mathlib.Core.Path.{◌≡◌}
use mathlib.Core.Bool.{true}
use mathlib.Core.List.{List}
use lib.Dec.{leb}
use lib.ListN.{length}
use borrow.Author.Tests.{ltb-false, le-leb}
use Rattle.choice.specs.Pick.{not}
use Rattle.choice.proofs.Picks.{Kept, both_second, not_false}
use Rattle.rules.specs.Layout.{records_size, unpack}
use Rattle.rules.specs.Sound.{sound}
use Rattle.rules.specs.Outcomes.{records_rules}

pub long_enough : (b : List ℕ) → Kept (records_rules b) → records_size ≤ length b
long_enough b kept = ltb-false (length b) records_size kept.1.0

pub rules_kept : (b : List ℕ) → Kept (records_rules b) → sound (unpack b) ≡ true
rules_kept b kept =
    not_false (sound (unpack b))
    (both_second (leb records_size (length b)) (not (sound (unpack b))) kept.0 (le-leb records_size (length b) (long_enough b kept)))
