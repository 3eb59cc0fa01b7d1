-- What holds of a format: of a byte and of a number, and of two formats, an array and a struct if it holds of their parts.
-- Assumes nothing.
use Prim.Native.Nat.{ℕ, zero, suc, ◌+◌, ◌*◌, ◌-◌, ◌<◌, ◌≤◌}
use mathlib.Core.Path.{◌≡◌, refl, sym, ap, ◌∙◌, subst}
use mathlib.Core.List.{List, [], ◌∷◌, ◌++◌}
use mathlib.Core.Logic.{⊎_elim}
use native.Mathlib.Nat.{eq-or-lt_of_le, suc-mul}
use native.Mathlib.Numerals.{add-one}
use native.Mathlib.Omega.{arith}
use lib.ListN.{length, get_or, take, drop, length-append, get_or-append, take-append-drop}
use lib.Seq.{get_or_at, drop-cons, take-add, drop-drop, take-suc, take_all}
use Rattle.octets.specs.Octets.{part, Bytes}
use Rattle.octets.proofs.Laid.{Stands, laid_stands, stands_first, stands_second, stands_byte}
use Rattle.octets.proofs.Numbers.{octets_length, octets_bytes, octets_back, number_back, number_below}
use Rattle.fields.specs.Format.{Format, write, byte, number, ◌then◌, read_all, bytes_all, array, via}

pub record Laws {A : Type 0} (f : Format A) : Type 0 where
  -- a value has as many bytes as the format's size
  pub sized : (a : A) → length (f.bytes a) ≡ f.size
  -- what was written is read back
  pub back : (a : A) (s : List ℕ) (at : ℕ) → f.Good a → Stands s at (f.bytes a) → f.read s at ≡ a
  -- what was read is written back
  pub forth : (s : List ℕ) (at : ℕ) → Bytes s → at + f.size ≤ length s → f.bytes (f.read s at) ≡ part s at (at + f.size)
  -- what was read is good
  pub good : (s : List ℕ) (at : ℕ) → Bytes s → f.Good (f.read s at)
  -- a good value's bytes are bytes
  pub octet : (a : A) → f.Good a → Bytes (f.bytes a)

-- two parts, one behind the other, are one
part_join : (s : List ℕ) (at m n : ℕ) → part s at (at + m) ++ part s (at + m) (at + m + n) ≡ part s at (at + (m + n))
part_join s at m n =
    let a : at + m - at ≡ m = omega arith in
    let b : at + m + n - (at + m) ≡ n = omega arith in
    let c : at + (m + n) - at ≡ m + n = omega arith in
    rw (a, b, c, take-add m n (drop at s), drop-drop m at s)

-- two lists of bytes, one behind the other, are bytes
bytes_append : (a b : List ℕ) → Bytes a → Bytes b → Bytes (a ++ b)
bytes_append [] b p q i = q i
bytes_append (x ∷ a) b p q zero = p 0
bytes_append (x ∷ a) b p q (suc i) = bytes_append a b (λ j. p (suc j)) q i

pub byte_laws : Laws byte
byte_laws = record {
  sized = λ a. refl;
  back = λ a s at g e. stands_byte s at a [] e;
  forth = λ s at o h. let e : at + 1 - at ≡ 1 = omega arith in rw (e, drop-cons s at 0 (omega arith));
  good = λ s at o. o at;
  octet = octet;
}
  where
    octet : (a : ℕ) → byte.Good a → Bytes (byte.bytes a)
    octet a g zero = g
    octet a g (suc i) = omega arith

pub number_laws : (width : ℕ) → Laws (number width)
number_laws width = record {
  sized = octets_length width;
  back = λ a s at g e. number_back width a s at g e;
  forth = octets_back width;
  good = number_below width;
  octet = λ a g. octets_bytes width a;
}

pair : {A B : Type 0} {a : A} {b : B} (x : A × B) → a ≡ x.0 → b ≡ x.1 → ◌≡◌ {A = A × B} (a, b) x
pair x e d = rw (e, d)

infixr 40 ◌then-laws◌
pub ◌then-laws◌ : {A B : Type 0} {f : Format A} {g : Format B} → Laws f → Laws g → Laws (f then g)
◌then-laws◌ {f} {g} F G = record {
  sized = λ a. length-append (f.bytes a.0) (g.bytes a.1) ∙ rw (F.sized a.0, G.sized a.1);
  back = λ a s at k e. pair a
      (F.back a.0 s at k.0 (stands_first s at (f.bytes a.0) (g.bytes a.1) e))
      (G.back a.1 s (at + f.size) k.1 (rw (F.sized a.0) at (stands_second s at (f.bytes a.0) (g.bytes a.1) e)));
  forth = λ s at o h. rw (F.forth s at o (omega arith), G.forth s (at + f.size) o (omega arith)) (part_join s at f.size g.size);
  good = λ s at o. (F.good s at o, G.good s (at + f.size) o);
  octet = λ a k. bytes_append (f.bytes a.0) (g.bytes a.1) (F.octet a.0 k.0) (G.octet a.1 k.1);
}

module _ {A : Type 0} (f : Format A) where
  more : (n : ℕ) → n * f.size + f.size ≡ suc n * f.size
  more n = sym (suc-mul n f.size)

  length_read : (s : List ℕ) (at n : ℕ) → length (read_all f s at n) ≡ n
  unfolding read_all
  length_read s at zero = refl
  length_read s at (suc n) = length-append (read_all f s at n) (f.read s (at + n * f.size) ∷ []) ∙ rw (length_read s at n) (add-one n)

  -- an element of an array that was read
  pub get_read : (s : List ℕ) (at n i : ℕ) → i < n → get_or (read_all f s at n) i f.blank ≡ f.read s (at + i * f.size)
  unfolding read_all
  get_read s at zero i h = absurd (omega arith)
  get_read s at (suc n) i h =
      let x = f.read s (at + n * f.size) in
      ⊎_elim
      (λ (e : i ≡ n). rw (e, get_or_at (read_all f s at n) x [] f.blank n (length_read s at n)))
      (λ (k : i < n). get_or-append (read_all f s at n) (x ∷ []) f.blank i (omega (arith, length_read s at n)) ∙ get_read s at n i k)
      (eq-or-lt_of_le {n = i} {m = n} (omega arith))

  -- more elements than are asked for
  bytes_prefix : (xs ys : List A) (n : ℕ) → n ≤ length xs → bytes_all f (xs ++ ys) n ≡ bytes_all f xs n
  unfolding bytes_all
  bytes_prefix xs ys zero h = refl
  bytes_prefix xs ys (suc n) h = rw (bytes_prefix xs ys n (omega arith), get_or-append xs ys f.blank n (omega arith))

module _ {A : Type 0} {f : Format A} (F : Laws f) where
  sized_all : (n : ℕ) (xs : List A) → length (bytes_all f xs n) ≡ n * f.size
  unfolding bytes_all
  sized_all zero xs = omega arith
  sized_all (suc n) xs =
      length-append (bytes_all f xs n) (f.bytes (get_or xs n f.blank))
      ∙ rw (sized_all n xs, F.sized (get_or xs n f.blank)) (more f n)

  back_all : (n : ℕ) (xs : List A) (s : List ℕ) (at : ℕ) → n ≤ length xs → ((i : ℕ) → i < n → f.Good (get_or xs i f.blank))
      → Stands s at (bytes_all f xs n) → read_all f s at n ≡ take n xs
  unfolding read_all bytes_all
  back_all zero xs s at h k e = refl
  back_all (suc n) xs s at h k e =
      let b = bytes_all f xs n in
      let x = get_or xs n f.blank in
      rw (back_all n xs s at (omega arith) (λ i j. k i (omega arith)) (stands_first s at b (f.bytes x) e), F.back x s (at + n * f.size) (k n (omega arith)) (rw (sized_all n xs) at (stands_second s at b (f.bytes x) e)))
      (sym (take-suc xs n f.blank (omega arith)))

  forth_all : (n : ℕ) (s : List ℕ) (at : ℕ) → Bytes s → at + n * f.size ≤ length s → bytes_all f (read_all f s at n) n ≡ part s at (at + n * f.size)
  unfolding read_all bytes_all
  forth_all zero s at o h =
      let e : at + zero * f.size - at ≡ 0 = omega arith in
      rw e
  forth_all (suc n) s at o h =
      let k : at + n * f.size + f.size ≤ length s = omega (arith, more f n) in
      let x = f.read s (at + n * f.size) in
      rw (
        bytes_prefix f (read_all f s at n) (x ∷ []) n (omega (arith, length_read f s at n)),
        get_or_at (read_all f s at n) x [] f.blank n (length_read f s at n),
        forth_all n s at o (omega arith),
        F.forth s (at + n * f.size) o k,
        ← more f n,
      )
      (part_join s at (n * f.size) f.size)

  octet_all : (n : ℕ) (xs : List A) → ((i : ℕ) → i < n → f.Good (get_or xs i f.blank)) → Bytes (bytes_all f xs n)
  unfolding bytes_all
  octet_all zero xs k = λ i. omega arith
  octet_all (suc n) xs k =
      let x = get_or xs n f.blank in
      bytes_append (bytes_all f xs n) (f.bytes x) (octet_all n xs (λ i h. k i (omega arith))) (F.octet x (k n (omega arith)))

pub array_laws : {A : Type 0} {f : Format A} (n : ℕ) → Laws f → Laws (array n f)
array_laws {f} n F = record {
  sized = sized_all F n;
  back = λ xs s at k e. back_all F n xs s at (omega (arith, k.0)) k.1 e ∙ take_all n xs (omega (arith, k.0));
  forth = forth_all F n;
  good = λ s at o. (length_read f s at n, λ i k. rw (get_read f s at n i k) (F.good s (at + i * f.size) o));
  octet = λ xs k. octet_all F n xs k.1;
}

pub via_laws : {A B : Type 0} (to : A → B) (from : B → A) {f : Format A}
    → ((b : B) → to (from b) ≡ b) → ((a : A) → from (to a) ≡ a) → Laws f → Laws (via to from f)
via_laws to from {f} onto into F = record {
  sized = λ b. F.sized (from b);
  back = λ b s at k e. ap to (F.back (from b) s at k e) ∙ onto b;
  forth = λ s at o h. ap f.bytes (into (f.read s at)) ∙ F.forth s at o h;
  good = λ s at o. subst f.Good (sym (into (f.read s at))) (F.good s at o);
  octet = λ b. F.octet (from b);
}

-- of a value at a place of a list
module _ {A : Type 0} {f : Format A} (F : Laws f) where
  -- what was written is read back
  pub read_write : (a : A) (s : List ℕ) (at : ℕ) → f.Good a → at + f.size ≤ length s → f.read (write f a s at) at ≡ a
  unfolding write
  read_write a s at g h = F.back a (write f a s at) at g (laid_stands s at (f.bytes a) (rw (F.sized a) h))

  -- what was read, written again, changes nothing
  pub write_read : (s : List ℕ) (at : ℕ) → Bytes s → at + f.size ≤ length s → write f (f.read s at) s at ≡ s
  unfolding write
  write_read s at o h =
      let e : at + f.size - at ≡ f.size = omega arith in
      rw (F.sized (f.read s at), F.forth s at o h, e, ← drop-drop f.size at s, take-append-drop f.size (drop at s)) (take-append-drop at s)
