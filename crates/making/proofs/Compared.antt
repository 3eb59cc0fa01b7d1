-- Comparing with a number's digits from the last back, and with a root, a dot and a serial.
-- Assumes nothing.
use Prim.Native.Nat.{ℕ, ◌+◌, ◌-◌, ◌<◌, ◌≤◌, ◌/◌, ◌%◌}
use mathlib.Core.Path.{◌≡◌, refl, sym, ap, ◌∙◌}
use mathlib.Core.Bool.{Bool, true, false}
use mathlib.Core.List.{List, [], ◌∷◌, ◌++◌}
use native.Mathlib.Omega.{arith}
use lib.Dec.{eqb, ltb}
use lib.ListN.{length, get_or, take, drop, length-append, take-append-drop}
use lib.Seq.{length-take-le, drop-cons}
use native.Mathlib.Numerals.{add-one}
use borrow.Author.Tests.{ltb-true, ltb-false, ne_eqb}
use Rattle.choice.specs.Pick.{pick, both}
use Rattle.choice.proofs.Picks.{both_fails, both_only}
use Rattle.octets.specs.Octets.{same}
use Rattle.octets.proofs.Parts.{rest}
use Rattle.octets.proofs.Same.{same_last, same_length, same_parts}
use Rattle.uids.specs.Uids.{decimal, made}
use Rattle.uids.proofs.Decimal.{decimal_one, decimal_more, decimal_all}
use Rattle.uids.proofs.Made.{made_length}

nothing_left : (s : List ℕ) → same s [] ≡ eqb (length s) 0
unfolding same
nothing_left [] = refl
nothing_left (x ∷ s) = sym (ne_eqb (length (x ∷ s)) 0 (λ e. absurd (omega (arith, e))))

-- one digit: the last byte of those that are left
pub digit_turn : (s before : List ℕ) (c rest : ℕ) → s ≡ before ++ (c ∷ []) → rest < 10000000000
    → same s (decimal rest) ≡ both (eqb c (48 + rest % 10)) (pick (ltb rest 10) (eqb (length before) 0) (same before (decimal (rest / 10))))
digit_turn s before c rest d m = ap (λ (u : List ℕ). same u (decimal rest)) d ∙ turn (ltb rest 10) refl
  where
    turn : (t : Bool) → ltb rest 10 ≡ t
        → same (before ++ (c ∷ [])) (decimal rest) ≡ both (eqb c (48 + rest % 10)) (pick t (eqb (length before) 0) (same before (decimal (rest / 10))))
    turn true e =
        ap (same (before ++ (c ∷ []))) (decimal_one rest (ltb-true rest 10 e)) ∙ same_last before [] c (48 + rest % 10)
        ∙ ap (both (eqb c (48 + rest % 10))) (nothing_left before)
    turn false e =
        ap (same (before ++ (c ∷ []))) (decimal_more rest (ltb-false rest 10 e) m) ∙ same_last before (decimal (rest / 10)) c (48 + rest % 10)

-- a number has a digit
pub no_digits : (s : List ℕ) (rest : ℕ) → length s ≡ 0 → rest < 10000000000 → same s (decimal rest) ≡ false
no_digits s rest h m =
    let some = decimal_all (λ (n : ℕ) (digits : List ℕ). 0 < length digits) (λ n l. omega arith) (λ n tens l d. rw (length-append tens _) (omega arith)) rest m in
    same_length s (decimal rest) (λ e. absurd (omega (arith, e)))

no_dot : (root uid : List ℕ) (serial : ℕ) → length uid ≤ length root → same uid (made root serial) ≡ false
no_dot root uid serial h = same_length uid (made root serial) (λ e. absurd (omega (arith, e, made_length root serial)))

made_parts : (root uid : List ℕ) (serial : ℕ) → length root < length uid
    → same uid (made root serial)
    ≡ both (same (take (length root) uid) root) (both (eqb (get_or uid (length root) 0) 46) (same (drop (length root + 1) uid) (decimal serial)))
unfolding made same
made_parts root uid serial h =
    let n = length root in
    ap (λ (u : List ℕ). same u (made root serial)) (sym (take-append-drop n uid) ∙ ap (λ (r : List ℕ). take n uid ++ r) (drop-cons uid n 0 h))
    ∙ same_parts (take n uid) _ root _ (length-take-le n uid (omega arith))
    ∙ rw (add-one n)

turned : (a b c : Bool) → both a (both b c) ≡ both c (both b a)
turned true true c = sym (both_only c)
turned true false c = sym (both_fails c)
turned false b c = rw (both_fails b, both_fails c)

-- the tests, from the last byte back
pub made_tests : (root uid : List ℕ) (serial : ℕ) → let n = length root in
    same uid (made root serial)
    ≡ both (ltb n (length uid))
    (both (same (take (length uid - (n + 1)) (drop (n + 1) uid)) (decimal serial)) (both (eqb (get_or uid n 0) 46) (same (take n uid) root)))
made_tests root uid serial = turn (ltb (length root) (length uid)) refl
  where
    turn : (t : Bool) → ltb (length root) (length uid) ≡ t → let n = length root in
        same uid (made root serial)
        ≡ both t
        (both (same (take (length uid - (n + 1)) (drop (n + 1) uid)) (decimal serial)) (both (eqb (get_or uid n 0) 46) (same (take n uid) root)))
    turn true e =
        made_parts root uid serial (ltb-true _ _ e)
        ∙ rw (rest uid (length root + 1)) (turned (same (take (length root) uid) root) (eqb (get_or uid (length root) 0) 46) (same (drop (length root + 1) uid) (decimal serial)))
    turn false e = no_dot root uid serial (ltb-false _ _ e)
