-- Good records are not refused, useless ones are by every call but start: lines 1 and 2 for the records; no other line has the number 0 or 1.
-- Assumes nothing.
use mathlib.Core.Path.{◌≡◌, refl}
use mathlib.Core.Bool.{Bool, true, false}
use mathlib.Core.List.{List, [], ◌∷◌}
use Prim.Native.Nat.{ℕ, ◌≤◌, ◌<◌}
use native.Mathlib.Omega.{arith}
use borrow.Author.Tests.{lt-ltb, le-ltb, leb-false}
use lib.Dec.{leb, ltb}
use lib.ListN.{length}
use Rattle.choice.specs.Pick.{both, not}
use Rattle.choice.specs.Rules.{Rule, ◌⇒◌, first_or}
use Rattle.choice.proofs.Picks.{Kept, clash}
use Rattle.strike.specs.Service.{Call, start, opening, feed, close, aside, Check, passes, refuses}
use Rattle.rules.specs.declared.Core.{Core}
use Rattle.rules.specs.Sound.{sound}
use Rattle.rules.specs.Layout.{records_size, unpack}
use Rattle.rules.specs.Calls.{taking, handed, rules_of, check}
use Rattle.rules.specs.Outcomes.{records_rules}
use Rattle.promises.proofs.NextCalls.{no_refusal}
use Rattle.runs.specs.Runs.{usable}
use Rattle.runs.proofs.Buffers.{RecordsGood}

-- neither "records long enough break a rule" nor "the records' buffer is too short"
pub records_accepted : (b : List ℕ) → RecordsGood b → Kept (records_rules b)
records_accepted b good = (no_refusal b good.kept, (le-ltb (length b) records_size good.long, tt))

-- rules of which one is broken, whatever is given for its number and for the rest
pub record Broken (rules : List Rule) : Type 1 where
  pub number : ℕ
  pub some : 1 ≤ number
  pub small : number ≤ 2
  pub gives : {A : Type 0} (refused : ℕ → A) (kept : A) → first_or refused rules kept ≡ refused number

broken_by : (long kept short : Bool) → both long kept ≡ false → (long ≡ false → short ≡ true) → Broken ((both long (not kept) ⇒ 1) ∷ (short ⇒ 2) ∷ [])
broken_by true true short e h = absurd (clash e refl)
broken_by true false short e h = record { number = 1; some = omega arith; small = omega arith; gives = λ refused kept. refl }
broken_by false kept short e h = rw (h refl) (record { number = 2; some = omega arith; small = omega arith; gives = λ refused kept. refl })

pub useless_broken : (b : List ℕ) → usable b ≡ false → Broken (records_rules b)
useless_broken b e =
    broken_by (leb records_size (length b)) (sound (unpack b)) (ltb (length b) records_size) e
    (λ f. lt-ltb (length b) records_size (leb-false records_size (length b) f))

-- every other rule has a number from 2 on, and below those of the other answers
abbrev pub Refusal : ℕ → Type 0
Refusal n = (2 ≤ n) × (n < 16)

abbrev Numbered : List Rule → Type 0
Numbered [] = Unit {0}
Numbered ((broken ⇒ n) ∷ rules) = Refusal n × Numbered rules

module _ {A : Type 0} (P : Check → A → Type 0) (refused : ℕ → A) (kept : A) where
  numbered_cases : (rules : List Rule) → Numbered rules → ((n : ℕ) → Refusal n → P (refuses n) (refused n)) → (Kept rules → P passes kept)
      → P (first_or refuses rules passes) (first_or refused rules kept)
  numbered_cases [] h f g = g tt
  numbered_cases ((true ⇒ n) ∷ rules) h f g = f n h.0
  numbered_cases ((false ⇒ n) ∷ rules) h f g = numbered_cases rules h.1 f (λ k. g (refl, k))

all_numbered : (k : Core) (c : Call handed) → Numbered (rules_of k c)
all_numbered k (start h) = omega arith
all_numbered k (opening h) = omega arith
all_numbered k (feed bytes h) = omega arith
all_numbered k close = omega arith
all_numbered k (aside (taking entry)) = omega arith

-- a call is refused with such a number, or keeps its rules
pub check_cases : (k : Core) (c : Call handed) (P : Check → Type 0) → ((n : ℕ) → Refusal n → P (refuses n)) → (Kept (rules_of k c) → P passes) → P (check k c)
unfolding check
check_cases k c P f g = numbered_cases (λ x y. P x) refuses passes (rules_of k c) (all_numbered k c) f g

-- the same with what its rules give beside the machine's check
pub outcome_cases : {A : Type 0} (k : Core) (c : Call handed) (P : Check → A → Type 0) (refused : ℕ → A) (kept : A)
    → ((n : ℕ) → Refusal n → P (refuses n) (refused n)) → (Kept (rules_of k c) → P passes kept) → P (check k c) (first_or refused (rules_of k c) kept)
unfolding check
outcome_cases k c P refused kept f g = numbered_cases P refused kept (rules_of k c) (all_numbered k c) f g
