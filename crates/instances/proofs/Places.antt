-- The first place whose element passes a test, place by place; and whether there is one.
-- Assumes nothing.
use Prim.Native.Nat.{ℕ, zero, suc, ◌+◌, ◌<◌, ◌≤◌}
use mathlib.Core.Path.{◌≡◌, refl, sym, ap, ◌∙◌}
use mathlib.Core.Bool.{Bool, true, false}
use mathlib.Core.List.{List, [], ◌∷◌, map}
use native.Mathlib.Omega.{arith}
use Rattle.std.specs.declared.option.Option.{Option}
use Rattle.std.specs.declared.option.Option.TheVariants.{Some, None}
use Rattle.std.specs.Option.{MatchOption}
use lib.Dec.{ltb}
use lib.ListN.{length, get_or}
use borrow.Author.Tests.{lt-ltb, le-ltb, ltb-true, ltb-false}
use Rattle.choice.specs.Pick.{pick, either}
use Rattle.octets.specs.Octets.{same}
use Rattle.uids.specs.Uids.{made}
use Rattle.rules.specs.declared.Film.{Film}
use Rattle.rules.specs.declared.Numbers.{Numbers}
use Rattle.rules.specs.Lists.{any, place_of, from}
use Rattle.instances.specs.Search.{first_place}
use Rattle.rules.specs.Records.{root_of, box_count, box_uids, box_named}

suc_ltb : (t : Bool) (p n : ℕ) → ltb p n ≡ t → t ≡ ltb (suc p) (suc n)
suc_ltb true p n e = sym (lt-ltb (suc p) (suc n) (omega (arith, ltb-true p n e)))
suc_ltb false p n e = sym (le-ltb (suc p) (suc n) (omega (arith, ltb-false p n e)))

any_behind : (here : Bool) (p n : ℕ) → either here (ltb p n) ≡ ltb (pick here 0 (suc p)) (suc n)
any_behind true p n = sym (lt-ltb 0 (suc n) (omega arith))
any_behind false p n = suc_ltb (ltb p n) p n refl

module _ {A : Type 0} (test : A → Bool) where
  -- any passes exactly where there is such a place
  pub any_place : (xs : List A) → any test xs ≡ ltb (place_of test xs) (length xs)
  unfolding any place_of
  any_place [] = refl
  any_place (x ∷ xs) = rw (any_place xs) (any_behind (test x) (place_of test xs) (length xs))

  found_behind : (x d : A) (here : Bool) (xs : List A) → test x ≡ here → (place_of test xs < length xs → test (get_or xs (place_of test xs) d) ≡ true) → pick here 0 (suc (place_of test xs)) < suc (length xs) → test (get_or (x ∷ xs) (pick here 0 (suc (place_of test xs))) d) ≡ true
  found_behind x d true xs e f h = e
  found_behind x d false xs e f h = f (omega arith)

  -- the element at that place passes
  pub place_passes : (xs : List A) (d : A) → place_of test xs < length xs → test (get_or xs (place_of test xs) d) ≡ true
  unfolding place_of
  place_passes [] d h = absurd (omega arith)
  place_passes (x ∷ xs) d h = found_behind x d (test x) xs refl (place_passes xs d) h

  -- no element passes
  none_passes : (xs : List A) (d : A) → ((k : ℕ) → k < length xs → test (get_or xs k d) ≡ false) → any test xs ≡ false
  unfolding any
  none_passes [] d f = refl
  none_passes (x ∷ xs) d f = rw (f 0 (omega arith)) (none_passes xs d (λ k h. f (suc k) (omega arith)))

  -- the one at i is the first
  first_passes : (xs : List A) (i : ℕ) (d : A) → i < length xs → test (get_or xs i d) ≡ true → ((k : ℕ) → k < i → test (get_or xs k d) ≡ false) → place_of test xs ≡ i
  unfolding place_of
  first_passes [] i d h t f = absurd (omega arith)
  first_passes (x ∷ xs) zero d h t f = rw t
  first_passes (x ∷ xs) (suc i) d h t f = rw (f 0 (omega arith)) (ap suc (first_passes xs i d (omega arith) t (λ k l. f (suc k) (omega arith))))

  -- by what the code's `find` told of the places
  module _ (xs : List A) (d : A) (n : ℕ) (long : length xs ≡ n) (at : ℕ → Bool) (alike : (k : ℕ) → k < n → test (get_or xs k d) ≡ at k) where
    pub first_told : (r : Option ℕ) → MatchOption r ((k : ℕ) → 0 ≤ k → k < n → at k ≡ false) (λ i. (0 ≤ i) × (i < n) × (at i ≡ true) × ((k : ℕ) → 0 ≤ k → k < i → at k ≡ false)) → r ≡ first_place test xs
    first_told None m =
        let none = none_passes xs d (λ k h. let l : k < n = omega arith in alike k l ∙ m k (omega arith) l) in
        sym (rw none)
    first_told (Some i) m =
        let h : i < length xs = omega (arith, m.1) in
        let place = first_passes xs i d h (alike i m.1 ∙ m.2) (λ k l. alike k (omega (arith, m.1)) ∙ m.3 k (omega arith) l) in
        let found : any test xs ≡ true = any_place xs ∙ lt-ltb (place_of test xs) (length xs) (omega (arith, place)) in
        sym (rw (found, place))

found_when : (p i : ℕ) (t : Bool) → Some i ≡ pick t (Some p) None → (t ≡ true) × (i ≡ p)
found_when p i true e = (refl, cc)
found_when p i false e = absurd cc

missed_when : (p : ℕ) (t : Bool) → None ≡ pick t (Some p) None → t ≡ false
missed_when p true e = absurd cc
missed_when p false e = refl

-- a place was found, or none
module _ {A : Type 0} (test : A → Bool) (xs : List A) where
  pub found : (i : ℕ) → Some i ≡ first_place test xs → (i ≡ place_of test xs) × (i < length xs)
  found i e =
      let t = found_when (place_of test xs) i (any test xs) e in
      let l = ltb-true (place_of test xs) (length xs) (sym (any_place test xs) ∙ t.0) in
      (t.1, omega (arith, t.1))

  pub missed : None ≡ first_place test xs → length xs ≤ place_of test xs
  missed e = ltb-false (place_of test xs) (length xs) (sym (any_place test xs) ∙ missed_when (place_of test xs) (any test xs) e)

-- two tests that agree on every element
pub place_alike : {A : Type 0} (test other : A → Bool) (xs : List A) → ((i : ℕ) (d : A) → i < length xs → test (get_or xs i d) ≡ other (get_or xs i d)) → place_of test xs ≡ place_of other xs
unfolding place_of
place_alike test other [] f = refl
place_alike test other (x ∷ xs) f = rw (f 0 x (omega arith), place_alike test other xs (λ i d h. f (suc i) d (omega arith)))

-- the UIDs made from a serial on
made_count : (root : List ℕ) (first count : ℕ) → length (map (made root) (from first count)) ≡ count
unfolding from
made_count root first zero = refl
made_count root first (suc count) = ap suc (made_count root (first + 1) count)

-- a film has a box of a UID exactly where there is a place for it
pub box_found : (n : Numbers) (uid : List ℕ) (f : Film) (p count : ℕ) → p ≡ place_of (same uid) (box_uids n f) → count ≡ box_count f.layout → ltb p count ≡ box_named n uid f
unfolding box_uids
box_found n uid f p count h k =
    let uids = map (made (root_of n)) (from f.first.0 (box_count f.layout)) in
    let long = made_count (root_of n) f.first.0 (box_count f.layout) in
    rw (h, k) (sym (any_place (same uid) uids ∙ ap (ltb (place_of (same uid) uids)) long))
