-- A part of a value written alone, where the value stands already, is the value with that part anew written whole.
-- Assumes nothing.
use Prim.Native.Nat.{ℕ, zero, suc, ◌+◌, ◌*◌, ◌<◌, ◌≤◌}
use mathlib.Core.Path.{◌≡◌, refl, sym, ap, ◌∙◌, subst}
use mathlib.Core.List.{List, [], ◌++◌, append_assoc, append-nil}
use mathlib.Core.Logic.{⊎_elim}
use native.Mathlib.Nat.{eq-or-lt_of_le}
use native.Mathlib.Omega.{arith}
use lib.ListN.{length, get_or, set, take, drop, length-append}
use lib.Seq.{take_at, drop_at, drop-drop, length-take-le, get_or-set_same, get_or-set_other}
use Rattle.octets.specs.Octets.{laid}
use Rattle.fields.specs.Format.{Format, ◌then◌, bytes_all}
use Rattle.fields.proofs.Laws.{Laws, array_laws}

-- two runs of bytes that differ at one place, and what the one and the other has there
pub record Anew (old new : List ℕ) (at : ℕ) (was is : List ℕ) : Type 0 where
  pub front : List ℕ
  pub back : List ℕ
  pub before : old ≡ front ++ (was ++ back)
  pub after : new ≡ front ++ (is ++ back)
  pub placed : length front ≡ at
  pub sized : length is ≡ length was

-- the first of two
front_anew : (x y rest : List ℕ) → length y ≡ length x → Anew (x ++ rest) (y ++ rest) 0 x y
front_anew x y rest e = record {
  front = [];
  back = rest;
  before = refl;
  after = refl;
  placed = refl;
  sized = e;
}

module _ {A : Type 0} {f : Format A} (F : Laws f) (x y : A) where
  even : length (f.bytes y) ≡ length (f.bytes x)
  even = F.sized y ∙ sym (F.sized x)

  pub whole : Anew (f.bytes x) (f.bytes y) 0 (f.bytes x) (f.bytes y)
  whole = record {
    front = [];
    back = [];
    before = rw append-nil;
    after = rw append-nil;
    placed = refl;
    sized = even;
  }

  pub first : {B : Type 0} (g : Format B) (rest : B) → Anew ((f then g).bytes (x, rest)) ((f then g).bytes (y, rest)) 0 (f.bytes x) (f.bytes y)
  first g rest = front_anew (f.bytes x) (f.bytes y) (g.bytes rest) even

module _ {old new : List ℕ} {at : ℕ} {was is : List ℕ} (a : Anew old new at was is) where
  pub same_length : length new ≡ length old
  same_length =
      let e : length (a.front ++ (is ++ a.back)) ≡ length (a.front ++ (was ++ a.back)) = simp (length-append, a.sized) in
      ap length a.after ∙ e ∙ sym (ap length a.before)

  -- behind a value
  pub behind : {A : Type 0} {f : Format A} → Laws f → (x : A) → Anew (f.bytes x ++ old) (f.bytes x ++ new) (f.size + at) was is
  behind {f} F x = record {
    front = f.bytes x ++ a.front;
    back = a.back;
    before = ap (λ (l : List ℕ). f.bytes x ++ l) a.before ∙ sym (append_assoc (f.bytes x) a.front (was ++ a.back));
    after = ap (λ (l : List ℕ). f.bytes x ++ l) a.after ∙ sym (append_assoc (f.bytes x) a.front (is ++ a.back));
    placed = length-append (f.bytes x) a.front ∙ rw (F.sized x, a.placed);
    sized = a.sized;
  }

  -- what differs at one place differs in a part of that
  pub inside : {at' : ℕ} {was' is' : List ℕ} → Anew was is at' was' is' → Anew old new (at + at') was' is'
  inside {was'} {is'} b = record {
    front = a.front ++ b.front;
    back = b.back ++ a.back;
    before = a.before ∙ rw b.before (simp append_assoc);
    after = a.after ∙ rw b.after (simp append_assoc);
    placed = length-append a.front b.front ∙ rw (a.placed, b.placed);
    sized = b.sized;
  }

  pub moved : {n : ℕ} → at ≡ n → Anew old new n was is
  moved e = subst (λ (n : ℕ). Anew old new n was is) e a

  -- written alone, where the old bytes stand
  pub alone : (b t : List ℕ) (p : ℕ) → p + length old ≤ length b → t ≡ laid b p old → laid t (p + at) is ≡ laid b p new
  alone b t p h e =
      let rest = drop (p + length old) b in
      let head = take p b ++ a.front in
      let l : length head ≡ p + at = length-append (take p b) a.front ∙ rw (length-take-le p b (omega arith), a.placed) in
      let stands : t ≡ head ++ (was ++ (a.back ++ rest)) = e ∙ ap (λ (x : List ℕ). take p b ++ (x ++ rest)) a.before ∙ simp append_assoc in
      ap (λ (x : List ℕ). take (p + at) x ++ (is ++ drop (p + at + length is) x)) stands
      ∙ rw (
        take_at head (was ++ (a.back ++ rest)) (p + at) l,
        ← drop-drop (length is) (p + at) (head ++ (was ++ (a.back ++ rest))),
        drop_at head (was ++ (a.back ++ rest)) (p + at) l,
        drop_at was (a.back ++ rest) (length is) (sym a.sized),
        same_length,
        a.after,
      )
      (simp append_assoc)

-- an element of an array
module _ {A : Type 0} {f : Format A} (F : Laws f) (x : A) where
  unset : (xs : List A) (i n : ℕ) → n ≤ i → bytes_all f (set xs i x) n ≡ bytes_all f xs n
  unfolding bytes_all
  unset xs i zero h = refl
  unset xs i (suc n) h = rw (unset xs i n (omega arith), get_or-set_other xs i n x f.blank (λ e. omega arith))

  newest : (xs : List A) (i : ℕ) → i < length xs
      → Anew (bytes_all f xs (suc i)) (bytes_all f (set xs i x) (suc i)) (i * f.size) (f.bytes (get_or xs i f.blank)) (f.bytes x)
  unfolding bytes_all
  newest xs i k = record {
    front = bytes_all f xs i;
    back = [];
    before = rw append-nil;
    after = rw (unset xs i i (omega arith), get_or-set_same xs i x f.blank k, append-nil);
    placed = (array_laws i F).sized xs;
    sized = even F (get_or xs i f.blank) x;
  }

  older : (xs : List A) (i n : ℕ) → i < n
      → Anew (bytes_all f xs n) (bytes_all f (set xs i x) n) (i * f.size) (f.bytes (get_or xs i f.blank)) (f.bytes x)
      → Anew (bytes_all f xs (suc n)) (bytes_all f (set xs i x) (suc n)) (i * f.size) (f.bytes (get_or xs i f.blank)) (f.bytes x)
  unfolding bytes_all
  older xs i n l a =
      let e : 0 + i * f.size ≡ i * f.size = omega arith in
      rw (get_or-set_other xs i n x f.blank (λ d. omega arith))
      (moved (inside (front_anew (bytes_all f xs n) (bytes_all f (set xs i x) n) (f.bytes (get_or xs n f.blank)) (same_length a)) a) e)

  pub element : (xs : List A) (i n : ℕ) → i < n → i < length xs
      → Anew (bytes_all f xs n) (bytes_all f (set xs i x) n) (i * f.size) (f.bytes (get_or xs i f.blank)) (f.bytes x)
  unfolding bytes_all
  element xs i zero h k = absurd (omega arith)
  element xs i (suc n) h k =
      ⊎_elim
      (λ (e : i ≡ n). subst (λ (m : ℕ). Anew (bytes_all f xs (suc m)) (bytes_all f (set xs i x) (suc m)) (i * f.size) (f.bytes (get_or xs i f.blank)) (f.bytes x)) e (newest xs i k))
      (λ (l : i < n). older xs i n l (element xs i n l k))
      (eq-or-lt_of_le {n = i} {m = n} (omega arith))
