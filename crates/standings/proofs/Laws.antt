-- Standings and their numbers.
-- Assumes nothing.
use Prim.Native.Nat.{ℕ, ◌≤◌}
use mathlib.Core.Path.{◌≡◌, refl, sym}
use mathlib.Core.Bool.{Bool, true, false}
use mathlib.Core.List.{List, [], ◌∷◌}
use native.Mathlib.Omega.{arith}
use lib.Dec.{eqb}
use Rattle.choice.specs.Pick.{pick, either}
use Rattle.choice.specs.Rules.{first_broken}
use Rattle.elements.specs.declared.Found.{Found}
use Rattle.elements.specs.declared.Found.TheVariants.{Missing, Value, Sequence}
use Rattle.elements.proofs.Within.{FoundIn}
use Rattle.rules.specs.Lists.{any}
use Rattle.rules.specs.Commands.{placed, bytes_of}
use Rattle.rules.specs.Attributes.{Listing, Standing, missing, empty, wrong, fine, is, mandatory, optional, given, attribute_rules}
use Rattle.std.specs.Ordering.{ord_max}
use Rattle.standings.specs.declared.Severity.{Severity}
use Rattle.standings.specs.declared.Severity.TheVariants as severities
use Rattle.standings.specs.contracts.SeverityOrd.TheImpl as order
use Rattle.standings.specs.Level.{level}
use Rattle.standings.specs.Severity.{kind_of, severity, severity_by, optional_by, given_by, worse, rank, worst, status_of}

-- what stands where it was found, empty where it is no value
abbrev pub value_at : Listing → Found → List ℕ
value_at l f = bytes_of l.bytes (placed f)

-- a value stands within the bytes that it was found in
pub found_place : (n : ℕ) (f : Found) (low end : ℕ) → end ≤ n → FoundIn low end f → ((placed f).from ≤ (placed f).stop) × ((placed f).stop ≤ n)
found_place n Missing low end h g = (omega arith, omega arith)
found_place n (Value p) low end h g = (g.1.0, omega (arith, g.1.1, h))
found_place n (Sequence inside) low end h g = (omega arith, omega arith)

by_tests : (is_empty allowed : Bool) → severity (pick is_empty empty (pick allowed fine wrong)) ≡ severity_by 1 is_empty allowed
unfolding severity_by
by_tests true allowed = refl
by_tests false true = refl
by_tests false false = refl

pub mandatory_severity : (is_empty allowed : List ℕ → Bool) (l : Listing) (f : Found)
    → severity (mandatory is_empty allowed l f) ≡ severity_by (kind_of f) (is_empty (value_at l f)) (allowed (value_at l f))
unfolding severity_by
mandatory_severity is_empty allowed l Missing = refl
mandatory_severity is_empty allowed l (Value p) = by_tests (is_empty (bytes_of l.bytes p)) (allowed (bytes_of l.bytes p))
mandatory_severity is_empty allowed l (Sequence inside) = refl

optional_number : (s : Standing) (n : ℕ) → severity s ≡ n → severity (optional s) ≡ pick (eqb n 1) 1 0
optional_number missing n e = rw (sym e)
optional_number empty n e = rw (sym e)
optional_number wrong n e = rw (sym e)
optional_number fine n e = rw (sym e)

pub optional_severity : (is_empty allowed : List ℕ → Bool) (l : Listing) (f : Found)
    → severity (optional (mandatory is_empty allowed l f)) ≡ optional_by (kind_of f) (is_empty (value_at l f)) (allowed (value_at l f))
unfolding optional_by
optional_severity is_empty allowed l f = optional_number (mandatory is_empty allowed l f) _ (mandatory_severity is_empty allowed l f)

pub given_by_lem : (is_empty : List ℕ → Bool) (l : Listing) (f : Found) → given is_empty l f ≡ given_by (kind_of f) (is_empty (value_at l f))
unfolding given_by
given_by_lem is_empty l Missing = refl
given_by_lem is_empty l (Value p) = refl
given_by_lem is_empty l (Sequence inside) = refl

rank_cons : (s : Standing) (m e w : Bool) → rank (either (is missing s) m) (either (is empty s) e) (either (is wrong s) w) ≡ worse (severity s) (rank m e w)
unfolding worse
rank_cons missing true e w = refl
rank_cons missing false true w = refl
rank_cons missing false false true = refl
rank_cons missing false false false = refl
rank_cons empty true e w = refl
rank_cons empty false true w = refl
rank_cons empty false false true = refl
rank_cons empty false false false = refl
rank_cons wrong true e w = refl
rank_cons wrong false true w = refl
rank_cons wrong false false true = refl
rank_cons wrong false false false = refl
rank_cons fine true e w = refl
rank_cons fine false true w = refl
rank_cons fine false false true = refl
rank_cons fine false false false = refl

pub worst_none : worst [] ≡ 0
unfolding worst any
worst_none = refl

pub worst_cons : (s : Standing) (standings : List Standing) → worst (s ∷ standings) ≡ worse (severity s) (worst standings)
unfolding worst any
worst_cons s standings = rank_cons s (any (is missing) standings) (any (is empty) standings) (any (is wrong) standings)

-- the worst gives the status of check 8
status_rank : (m e w : Bool) → status_of (rank m e w) ≡ pick m 0x0120 (pick e 0x0121 (pick w 0x0106 0))
unfolding status_of
status_rank true e w = refl
status_rank false true w = refl
status_rank false false true = refl
status_rank false false false = refl

pub worst_status : (standings : List Standing) → status_of (worst standings) ≡ first_broken (attribute_rules standings)
unfolding worst
worst_status standings = status_rank (any (is missing) standings) (any (is empty) standings) (any (is wrong) standings)

-- where no rule of check 8 is broken, the first attribute stands as it should
fine_rank : (s : Standing) (m e w : Bool)
    → pick {A = ℕ} (either (is missing s) m) 0x0120 (pick (either (is empty s) e) 0x0121 (pick (either (is wrong s) w) 0x0106 0)) ≡ 0 → severity s ≡ 0
fine_rank missing m e w h = absurd (omega (arith, h))
fine_rank empty true e w h = absurd (omega (arith, h))
fine_rank empty false e w h = absurd (omega (arith, h))
fine_rank wrong true e w h = absurd (omega (arith, h))
fine_rank wrong false true w h = absurd (omega (arith, h))
fine_rank wrong false false w h = absurd (omega (arith, h))
fine_rank fine m e w h = refl

pub first_fine : (s : Standing) (standings : List Standing) → first_broken (attribute_rules (s ∷ standings)) ≡ 0 → severity s ≡ 0
unfolding any
first_fine s standings h = fine_rank s (any (is missing) standings) (any (is empty) standings) (any (is wrong) standings) h

-- a mandatory attribute that stands as it should is allowed
fine_tests : (none nested is_empty allowed : Bool) → pick {A = ℕ} none 3 (pick nested 1 (pick is_empty 2 (pick allowed 0 1))) ≡ 0 → allowed ≡ true
fine_tests true nested is_empty allowed h = absurd (omega (arith, h))
fine_tests false true is_empty allowed h = absurd (omega (arith, h))
fine_tests false false true allowed h = absurd (omega (arith, h))
fine_tests false false false true h = refl
fine_tests false false false false h = absurd (omega (arith, h))

pub fine_allowed : (kind : ℕ) (is_empty allowed : Bool) → severity_by kind is_empty allowed ≡ 0 → allowed ≡ true
unfolding severity_by
fine_allowed kind is_empty allowed h = fine_tests (eqb kind 0) (eqb kind 2) is_empty allowed h

-- the worse of two is the greater
pub greater : (a b : Severity) → level (ord_max order.cmp-value.it a b) ≡ worse (level a) (level b)
unfolding worse
greater severities.Allowed severities.Allowed = refl
greater severities.Allowed severities.Wrong = refl
greater severities.Allowed severities.Empty = refl
greater severities.Allowed severities.Missing = refl
greater severities.Wrong severities.Allowed = refl
greater severities.Wrong severities.Wrong = refl
greater severities.Wrong severities.Empty = refl
greater severities.Wrong severities.Missing = refl
greater severities.Empty severities.Allowed = refl
greater severities.Empty severities.Wrong = refl
greater severities.Empty severities.Empty = refl
greater severities.Empty severities.Missing = refl
greater severities.Missing severities.Allowed = refl
greater severities.Missing severities.Wrong = refl
greater severities.Missing severities.Empty = refl
greater severities.Missing severities.Missing = refl
