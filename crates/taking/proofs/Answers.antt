-- A take is refused by the number of the first rule that it breaks, or is done: a law for each way out of it.
-- Assumes nothing.
use Prim.Native.Nat.{ℕ}
use mathlib.Core.Path.{◌≡◌, refl, ◌∙◌}
use mathlib.Core.List.{List}
use lib.ListN.{length}
use Rattle.choice.specs.Rules.{first_or, first_broken}
use Rattle.choice.proofs.Broken.{first_refused, first_unbroken}
use Rattle.octets.specs.Octets.{laid}
use Rattle.rules.specs.Calls.{take_rules, taken}
use Rattle.rules.specs.Outcomes.{records_rules, core_written, nothing_taken, took, takes}
use Rattle.records.specs.Places.{core_in}
use Rattle.records.proofs.Parts.{unpack_core}

module _ (b e : List ℕ) where
  pub take_unread : (n : ℕ) → n ≡ first_broken (records_rules b) → (n ≡ 0 → ⊥) → nothing_taken b e n ≡ takes b e
  unfolding takes
  take_unread = first_refused (nothing_taken b e) (records_rules b) _ refl

  module _ (unbroken : first_broken (records_rules b) ≡ 0) where
    -- by the take's own rules
    by_rules : first_or (nothing_taken b e) (take_rules (core_in b) (length e)) (took b e (taken (core_in b))) ≡ takes b e
    unfolding takes
    by_rules = rw (← unpack_core b) (first_unbroken (nothing_taken b e) (records_rules b) _ refl unbroken)

    pub take_refused : (n : ℕ) → n ≡ first_broken (take_rules (core_in b) (length e)) → (n ≡ 0 → ⊥) → nothing_taken b e n ≡ takes b e
    take_refused n g d = first_refused (nothing_taken b e) (take_rules (core_in b) (length e)) _ refl n g d ∙ by_rules

    -- the core alone is written anew
    pub take_done : first_broken (take_rules (core_in b) (length e)) ≡ 0 → (o x : List ℕ) → o ≡ core_written (taken (core_in b)).0 b → x ≡ laid e 0 (taken (core_in b)).1
        → record { number = 0; records = o; entry = x } ≡ takes b e
    take_done g o x eo ex =
        rw (eo, ex) (first_unbroken (nothing_taken b e) (take_rules (core_in b) (length e)) (took b e (taken (core_in b))) refl g ∙ by_rules)
