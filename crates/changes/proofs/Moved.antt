-- Bytes moved down in one list, and an array without one of its elements.
-- Assumes nothing.
use Prim.Native.Nat.{ℕ, zero, suc, ◌+◌, ◌*◌, ◌-◌, ◌<◌, ◌≤◌}
use mathlib.Core.Path.{◌≡◌, refl, sym, ap, ◌∙◌, subst}
use mathlib.Core.List.{List, [], ◌∷◌, ◌++◌, append_assoc, append-nil}
use native.Mathlib.Omega.{arith}
use lib.ListN.{length, get_or, take, drop, length-append, length-take, length-drop}
use lib.Seq.{paste, take_all, take-suc, split_at, length-take-le}
use Rattle.octets.specs.Octets.{part, laid}
use Rattle.octets.proofs.Laid.{Stands, laid_stands, stands_first, stands_second}
use Rattle.fields.specs.Format.{Format, bytes_all}
use Rattle.fields.proofs.Laws.{Laws, array_laws}
use Rattle.rules.specs.Lists.{without}
use Rattle.changes.proofs.Writes.{Anew}

-- Bytes copied further down lie over those that stood there.
pub moved : (b : List ℕ) (from by stop : ℕ) → from + by ≤ stop → stop ≤ length b
    → paste b from (drop (from + by) b) (stop - (from + by)) ≡ laid b from (part b (from + by) stop)
moved b from by stop h l =
    let k : length (part b (from + by) stop) ≡ stop - (from + by) = length-take-le (stop - (from + by)) (drop (from + by) b) (omega (arith, length-drop (from + by) b)) in
    rw k (append_assoc (take from b) (part b (from + by) stop) (drop (from + (stop - (from + by))) b))

-- An array, element behind element.

module _ {A : Type 0} (f : Format A) where
  unfoldable pub row : List A → List ℕ
  row [] = []
  row (x ∷ xs) = f.bytes x ++ row xs

  row_append : (xs ys : List A) → row (xs ++ ys) ≡ row xs ++ row ys
  unfolding row
  row_append [] ys = refl
  row_append (x ∷ xs) ys = ap (λ (l : List ℕ). f.bytes x ++ l) (row_append xs ys) ∙ sym (append_assoc (f.bytes x) (row xs) (row ys))

  row_first : (xs : List A) (n : ℕ) → n ≤ length xs → bytes_all f xs n ≡ row (take n xs)
  unfolding bytes_all row
  row_first xs zero h = refl
  row_first xs (suc n) h =
      sym (ap row (take-suc xs n f.blank (omega arith)) ∙ row_append (take n xs) (get_or xs n f.blank ∷ []) ∙ rw (row_first xs n (omega arith), append-nil))

  row_all : (xs : List A) (n : ℕ) → length xs ≡ n → bytes_all f xs n ≡ row xs
  row_all xs n e = row_first xs n (omega arith) ∙ ap row (take_all n xs (omega arith))

module _ {A : Type 0} {f : Format A} (F : Laws f) where
  pub row_length : (xs : List A) → length (row f xs) ≡ length xs * f.size
  row_length xs = ap length (sym (row_all f xs (length xs) refl)) ∙ (array_laws (length xs) F).sized xs

  -- without one of its elements, and another at the end
  pub removed : (xs : List A) (i n : ℕ) (z : A) → i < n → length xs ≡ n
      → Anew (bytes_all f xs n) (bytes_all f (without i xs ++ (z ∷ [])) n) (i * f.size) (f.bytes (get_or xs i f.blank) ++ row f (drop (suc i) xs)) (row f (drop (suc i) xs) ++ f.bytes z)
  unfolding row
  removed xs i n z h l =
      let x = get_or xs i f.blank in
      let r = drop (suc i) xs in
      let k : i < length xs = omega arith in
      let m : length (without i xs ++ (z ∷ [])) ≡ n = simp (length-append, length-take, length-drop) (omega arith) in
      record {
        front = row f (take i xs);
        back = [];
        before = row_all f xs n l ∙ ap (row f) (split_at xs i f.blank k) ∙ row_append f (take i xs) (x ∷ r) ∙ rw append-nil;
        after = row_all f (without i xs ++ (z ∷ [])) n m ∙ ap (row f) (append_assoc (take i xs) r (z ∷ [])) ∙ row_append f (take i xs) (r ++ (z ∷ [])) ∙ ap (λ (y : List ℕ). row f (take i xs) ++ y) (row_append f r (z ∷ []) ∙ sym (append_assoc (row f r) (f.bytes z) []));
        placed = ap length (sym (row_first f xs i (omega arith))) ∙ (array_laws i F).sized xs;
        sized = omega (arith, length-append (row f r) (f.bytes z), length-append (f.bytes x) (row f r), F.sized z, F.sized x);
      }

-- what differs at a place stands there as it was
pub stands_old : {old new : List ℕ} {at : ℕ} {was is : List ℕ} → Anew old new at was is → (b t : List ℕ) (p : ℕ) → p + length old ≤ length b → t ≡ laid b p old → Stands t (p + at) was
stands_old {old} {was} a b t p h e =
    let s : Stands t p old = subst (λ (x : List ℕ). Stands x p old) (sym e) (laid_stands b p old h) in
    let q = stands_second t p a.front (was ++ a.back) (subst (Stands t p) a.before s) in
    subst (λ (n : ℕ). Stands t (p + n) was) a.placed (stands_first t (p + length a.front) was a.back q)
