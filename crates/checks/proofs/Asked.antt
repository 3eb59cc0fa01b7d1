-- Checks 2 to 4: a request names its class within its command, and each way out as the code tells it.
-- Assumes nothing.
use Prim.Native.Nat.{ℕ}
use mathlib.Core.Path.{◌≡◌, ap, ◌∙◌}
use mathlib.Core.Bool.{Bool, true, false}
use mathlib.Core.List.{List}
use Rattle.choice.specs.Rules.{first_broken}
use Rattle.headers.specs.declared.Part.{Part}
use Rattle.rules.specs.declared.Operation.{Operation}
use Rattle.rules.specs.declared.Operation.TheVariants.{Echo, Create, Set, Act, Delete}
use Rattle.rules.specs.Commands.{uid_at}
use Rattle.rules.specs.declared.Class.{Class}
use Rattle.rules.specs.Checks.{class_of, class_part, is_unknown, offers, is_too_long, general_rules}
use Rattle.commands.specs.Within.{PartIn, OperationIn}
use Rattle.strike.specs.declared.Came.{Came}

pub class_in : (n : ℕ) (o : Operation) → OperationIn n o → PartIn n (class_part o)
class_in n (Echo r) h = h
class_in n (Create r) h = h.0
class_in n (Set r) h = h.0
class_in n (Act r) h = h.0
class_in n (Delete r) h = h.0

module _ (c : List ℕ) (came : Came) (o : Operation) (p : Part) (uid : List ℕ) (class : Class) (unknown : Bool)
    (Told-Part : p ≡ class_part o) (told-uid : uid ≡ uid_at c p) (told-class : class ≡ class_of uid) (told-unknown : unknown ≡ is_unknown class) where
  abbrev Answers : ℕ → Type 0
  Answers n = n ≡ first_broken (general_rules c came o)

  asked : class ≡ class_of (uid_at c (class_part o))
  asked = told-class ∙ ap class_of (told-uid ∙ ap (uid_at c) Told-Part)

  pub class_unknown : unknown ≡ true → Answers 0x0118
  unfolding general_rules
  class_unknown e = rw (← asked, ← told-unknown, e)

  module _ (known : unknown ≡ false) (offered : Bool) (told-offered : offered ≡ offers class o) where
    pub not_offered : offered ≡ false → Answers 0x0211
    unfolding general_rules
    not_offered e = rw (← asked, ← told-unknown, known, ← told-offered, e)

    module _ (is-offered : offered ≡ true) (long : Bool) (told-long : long ≡ is_too_long came) where
      pub too_long : long ≡ true → Answers 0x0213
      unfolding general_rules
      too_long e = rw (← asked, ← told-unknown, known, ← told-offered, is-offered, ← told-long, e)

      pub unbroken : long ≡ false → Answers 0
      unfolding general_rules
      unbroken e = rw (← asked, ← told-unknown, known, ← told-offered, is-offered, ← told-long, e)

pub ruleset asked_by = (class_unknown, not_offered, too_long, unbroken)
