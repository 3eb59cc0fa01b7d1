-- A number in decimal, of at most ten digits. Below 10 ^ 10 it is the digits of the number's tens and then its last digit, a component,
-- and tells its number. Assumes nothing.
use Prim.Native.Nat.{ℕ, zero, suc, ◌+◌, ◌*◌, ◌-◌, ◌<◌, ◌≤◌, ◌/◌, ◌%◌, ◌^◌}
use mathlib.Core.Path.{◌≡◌, refl, sym, ap, ◌∙◌}
use mathlib.Core.Bool.{Bool, true, false}
use mathlib.Core.List.{List, [], ◌∷◌, ◌++◌}
use native.Mathlib.Nat.{pow-suc}
use native.Mathlib.Omega.{arith}
use lib.Dec.{eqb, ltb, leb}
use lib.ListN.{length, get_or, length-append, get_or-append}
use borrow.Author.Tests.{ltb-true, ltb-false, lt-ltb, le-ltb, le-leb, ne_eqb}
use Rattle.choice.specs.Pick.{pick, both, either, not}
use Rattle.choice.proofs.Picks.{pick_cases, both_true, both_holds}
use Rattle.uids.specs.Uids.{digits, component, last_digits, decimal}

abbrev last_digit : ℕ → List ℕ
last_digit n = (48 + n % 10) ∷ []

-- the tens of a number below a power of ten are below the one before
tens_below : (n k : ℕ) → n < 10 ^ suc k → n / 10 < 10 ^ k
tens_below n k h = omega (arith, pow-suc 10 k)

-- what holds of one digit, and of a number's digits if it holds of its tens', holds of all numbers below 10 ^ 10 in decimal
module _ (P : ℕ → List ℕ → Type 0) (one : (n : ℕ) → n < 10 → P n (last_digit n)) (more : (n : ℕ) (tens : List ℕ) → 10 ≤ n → P (n / 10) tens → P n (tens ++ last_digit n)) where
  turn : (most n : ℕ) (t : Bool) → ltb n 10 ≡ t → (10 ≤ n → P (n / 10) (last_digits most (n / 10))) → P n (pick t [] (last_digits most (n / 10)) ++ last_digit n)
  turn most n true e rest = one n (ltb-true n 10 e)
  turn most n false e rest = let l = ltb-false n 10 e in more n (last_digits most (n / 10)) l (rest l)

  all : (most n : ℕ) → n < 10 ^ suc most → P n (last_digits (suc most) n)
  unfolding last_digits
  all zero n h = turn zero n (ltb n 10) refl (λ l. absurd (omega arith))
  all (suc most) n h = turn (suc most) n (ltb n 10) refl (λ l. all most (n / 10) (tens_below n (suc most) h))

  pub decimal_all : (n : ℕ) → n < 10000000000 → P n (decimal n)
  unfolding decimal
  decimal_all n h = all 9 n h

-- one place more than enough gives the same digits
fronts : (t : Bool) (x y : List ℕ) → (t ≡ false → x ≡ y) → pick t [] x ≡ pick t [] y
fronts true x y e = refl
fronts false x y e = e refl

enough : (most n : ℕ) → n < 10 ^ suc most → last_digits (suc most) n ≡ last_digits (suc (suc most)) n
unfolding last_digits
enough zero n h = rw (lt-ltb n 10 h)
enough (suc most) n h =
    ap (λ (tens : List ℕ). tens ++ last_digit n)
    (fronts (ltb n 10) _ _ (λ e. enough most (n / 10) (tens_below n (suc most) h)))

pub decimal_one : (n : ℕ) → n < 10 → decimal n ≡ (48 + n % 10) ∷ []
unfolding decimal last_digits
decimal_one n h = rw (lt-ltb n 10 h)

pub decimal_more : (n : ℕ) → 10 ≤ n → n < 10000000000 → decimal n ≡ decimal (n / 10) ++ ((48 + n % 10) ∷ [])
unfolding decimal last_digits
decimal_more n h k =
    rw (le-ltb n 10 h)
    (ap (λ (tens : List ℕ). tens ++ last_digit n) (enough 8 (n / 10) (omega arith)))

last_length : (most n : ℕ) → length (last_digits most n) ≤ most
unfolding last_digits
last_length zero n = omega arith
last_length (suc most) n =
    rw (length-append (pick (ltb n 10) [] (last_digits most (n / 10))) (last_digit n))
    (pick_cases (λ (tens : List ℕ). length tens + 1 ≤ suc most) (ltb n 10) [] (last_digits most (n / 10)) (λ e. omega arith) (λ e. omega (arith, last_length most (n / 10))))

pub decimal_length : (n : ℕ) → length (decimal n) ≤ 10
unfolding decimal
decimal_length n = last_length 10 n

-- the number that digits tell, behind others that tell `before`
abbrev value : ℕ → List ℕ → ℕ
value before [] = before
value before (d ∷ ds) = value (10 * before + (d - 48)) ds

value_more : (before : ℕ) (a : List ℕ) (d : ℕ) → value before (a ++ (d ∷ [])) ≡ 10 * value before a + (d - 48)
value_more before [] d = refl
value_more before (x ∷ a) d = value_more (10 * before + (x - 48)) a d

decimal_value_lem : (n : ℕ) → n < 10000000000 → value 0 (decimal n) ≡ n
decimal_value_lem =
    decimal_all
    (λ n ds. value 0 ds ≡ n)
    (λ n h. omega arith)
    (λ n tens h e. value_more 0 tens (48 + n % 10) ∙ rw e (omega arith))

-- two numbers have two decimals
pub decimal_apart : (a b : ℕ) → a < 10000000000 → b < 10000000000 → decimal a ≡ decimal b → a ≡ b
decimal_apart a b h k e = sym (decimal_value_lem a h) ∙ ap (value 0) e ∙ decimal_value_lem b k

last_digit_lem : (n : ℕ) → digits (last_digit n) ≡ true
unfolding digits
last_digit_lem n = rw (le-leb 48 (48 + n % 10) (omega arith), le-leb (48 + n % 10) 57 (omega arith))

digits_append : (a b : List ℕ) → digits a ≡ true → digits b ≡ true → digits (a ++ b) ≡ true
unfolding digits
digits_append [] b d e = e
digits_append (c ∷ a) b d e =
    let t = both_true (both (leb 48 c) (leb c 57)) (digits a) d in
    both_holds (both (leb 48 c) (leb c 57)) (digits (a ++ b)) t.0 (digits_append a b t.1 e)

pub decimal_digits : (n : ℕ) → n < 10000000000 → digits (decimal n) ≡ true
decimal_digits =
    decimal_all (λ n ds. digits ds ≡ true) (λ n h. last_digit_lem n) (λ n tens h e. digits_append tens (last_digit n) e (last_digit_lem n))

-- the first digit is 0 in 0 alone
first : (n : ℕ) → n < 10000000000 → (0 < length (decimal n)) × (0 < n → get_or (decimal n) 0 0 ≡ 48 → ⊥)
first =
    decimal_all
    (λ n ds. (0 < length ds) × (0 < n → get_or ds 0 0 ≡ 48 → ⊥))
    (λ n h. (omega arith, λ z e. omega arith))
    (λ n tens h f. (
      rw (length-append tens (last_digit n)) (omega arith),
      λ z e. f.1 (omega arith) (sym (get_or-append tens (last_digit n) 0 0 f.0) ∙ e),
    ))

pub decimal_component : (n : ℕ) → n < 10000000000 → component (decimal n) ≡ true
unfolding component
decimal_component n k =
    rw (ne_eqb (length (decimal n)) 0 (λ e. omega (arith, (first n k).0)), decimal_digits n k) (cases (ltb n 10) refl)
  where
    cases : (t : Bool) → ltb n 10 ≡ t → either (eqb (length (decimal n)) 1) (not (eqb (get_or (decimal n) 0 0) 48)) ≡ true
    cases true e = rw (decimal_one n (ltb-true n 10 e))
    cases false e =
        let l = ltb-false n 10 e in
        rw (ne_eqb (get_or (decimal n) 0 0) 48 ((first n k).1 (omega arith))) (pick_cases (λ b. b ≡ true) (eqb (length (decimal n)) 1) true true (λ d. refl) (λ d. refl))
