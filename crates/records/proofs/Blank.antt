-- Blank places hold zeros: the book's test of what is read at a place is the zero test of the place's bytes.
-- Assumes nothing.
use Prim.Native.Nat.{ℕ, zero, suc, ◌+◌, ◌*◌, ◌-◌, ◌≤◌}
use mathlib.Core.Path.{◌≡◌, refl, sym, ap, ◌∙◌}
use mathlib.Core.Bool.{Bool, true, false}
use mathlib.Core.List.{List, [], ◌∷◌, ◌++◌}
use native.Mathlib.Nat.{suc-mul, add-mul}
use native.Mathlib.Numerals.{add-one}
use native.Mathlib.Omega.{arith}
use lib.Dec.{eqb}
use lib.ListN.{length, get_or, take, drop, length-append, drop_of_length-le}
use lib.Seq.{drop-cons, take-add, drop-drop, drop-append-le}
use borrow.Author.Tests.{ne_eqb}
use Rattle.octets.specs.Octets.{number_at}
use Rattle.choice.specs.Pick.{both}
use Rattle.choice.proofs.Picks.{both_fails, both_only, both_assoc}
use Rattle.fields.specs.Format.{Format, byte, number, ◌then◌, read_all, array}
use Rattle.rules.specs.declared.Picture.{Picture}
use Rattle.rules.specs.Bounds.{most_boxes, most_films, most_entries}
use Rattle.rules.specs.Layout.{session_size, box_size, film_size, entry_size, serial_format, picture_format, name_format, session_format, box_format, layout_format, film_format, entry_format}
use Rattle.rules.specs.Lists.{every}
use Rattle.rules.specs.Sound.{zeros, name_blank, session_blank, box_blank, film_blank, entry_blank}

every_append : {A : Type 0} (test : A → Bool) (xs ys : List A) → every test (xs ++ ys) ≡ both (every test xs) (every test ys)
unfolding every
every_append test [] ys = refl
every_append test (x ∷ xs) ys = rw (every_append test xs ys) (both_assoc (test x) (every test xs) (every test ys))

-- a test of a format's values is the zero test of their bytes
record Zeroed {A : Type 0} (f : Format A) (test : A → Bool) : Type 0 where
  told : (b : List ℕ) (p : ℕ) → p + f.size ≤ length b → test (f.read b p) ≡ zeros (take f.size (drop p b))

byte_told : (b : List ℕ) (p : ℕ) → p + 1 ≤ length b → eqb (byte.read b p) 0 ≡ zeros (take 1 (drop p b))
unfolding every
byte_told b p h = rw (drop-cons b p 0 (omega arith)) (sym (both_only _))

byte_zeroed : Zeroed byte (λ x. eqb x 0)
byte_zeroed = record { told = byte_told }

-- a number is 0 if all its bytes are
sum_zero : (a n : ℕ) → eqb (a + 256 * n) 0 ≡ both (eqb a 0) (eqb n 0)
sum_zero zero zero = refl
sum_zero zero (suc n) = ne_eqb (0 + 256 * suc n) 0 (λ e. omega arith) ∙ sym (ne_eqb (suc n) 0 (λ e. omega arith))
sum_zero (suc a) n = ne_eqb (suc a + 256 * n) 0 (λ e. omega arith) ∙ sym (rw (ne_eqb (suc a) 0 (λ e. omega arith)))

number_told : (w : ℕ) (b : List ℕ) (p : ℕ) → p + w ≤ length b → eqb (number_at w b p) 0 ≡ zeros (take w (drop p b))
unfolding number_at every
number_told zero b p h = refl
number_told (suc w) b p h =
    rw (drop-cons b p 0 (omega arith), ← add-one p, ← number_told w b (p + 1) (omega arith)) (sum_zero (get_or b p 0) (number_at w b (p + 1)))

number_zeroed : (w : ℕ) → Zeroed (number w) (λ x. eqb x 0)
number_zeroed w = record { told = number_told w }

-- two places, one behind the other
zeros_add : (b : List ℕ) (p m n : ℕ) → zeros (take (m + n) (drop p b)) ≡ both (zeros (take m (drop p b))) (zeros (take n (drop (p + m) b)))
zeros_add b p m n =
    rw (take-add m n (drop p b), drop-drop m p b) (every_append (λ (x : ℕ). eqb x 0) (take m (drop p b)) (take n (drop (p + m) b)))

infixr 40 ◌then-zeroed◌
◌then-zeroed◌ : {A B : Type 0} {f : Format A} {g : Format B} {s : A → Bool} {t : B → Bool} → Zeroed f s → Zeroed g t → Zeroed (f then g) (λ x. both (s x.0) (t x.1))
◌then-zeroed◌ {f} {g} F G = record {
  told = λ b p h. rw (F.told b p (omega arith), G.told b (p + f.size) (omega arith)) (sym (zeros_add b p f.size g.size));
}

array_told : {A : Type 0} {f : Format A} {test : A → Bool} → Zeroed f test → (n : ℕ) (b : List ℕ) (p : ℕ) → p + n * f.size ≤ length b
    → every test (read_all f b p n) ≡ zeros (take (n * f.size) (drop p b))
unfolding read_all every
array_told {f} F zero b p h = let e : 0 * f.size ≡ 0 = omega arith in rw e
array_told {f} {test} F (suc n) b p h =
    let more = suc-mul n f.size in
    rw (more, zeros_add b p (n * f.size) f.size, every_append test (read_all f b p n) (f.read b (p + n * f.size) ∷ []), array_told F n b p (omega (arith, more)), both_only (test (f.read b (p + n * f.size))), F.told b (p + n * f.size) (omega (arith, more)))

array_zeroed : {A : Type 0} {f : Format A} {test : A → Bool} (n : ℕ) → Zeroed f test → Zeroed (array n f) (every test)
array_zeroed n F = record { told = array_told F n }

module _ {A : Type 0} (f : Format A) (b : List ℕ) (p : ℕ) where
  read_length : (n : ℕ) → length (read_all f b p n) ≡ n
  unfolding read_all
  read_length zero = refl
  read_length (suc n) = length-append (read_all f b p n) (f.read b (p + n * f.size) ∷ []) ∙ rw (read_length n) (add-one n)

  -- the elements behind the first k
  read_behind : (k n : ℕ) → drop k (read_all f b p (k + n)) ≡ read_all f b (p + k * f.size) n
  unfolding read_all
  read_behind k zero = drop_of_length-le (read_all f b p (k + 0)) {i = k} (omega (arith, read_length (k + 0)))
  read_behind k (suc n) =
      let e : k + suc n ≡ suc (k + n) = omega arith in
      let place : p + (k + n) * f.size ≡ p + k * f.size + n * f.size = omega (arith, add-mul k n f.size) in
      rw e (drop-append-le k (read_all f b p (k + n)) (f.read b (p + (k + n) * f.size) ∷ []) (omega (arith, read_length (k + n))) ∙ rw (read_behind k n, place))

-- an array from an index on
behind : {A : Type 0} {f : Format A} {test : A → Bool} → Zeroed f test → (n : ℕ) (b : List ℕ) (p k : ℕ) → k ≤ n → p + n * f.size ≤ length b
    → every test (drop k ((array n f).read b p)) ≡ zeros (take ((n - k) * f.size) (drop (p + k * f.size) b))
behind {f} {test} F n b p k h l =
    let e : n ≡ k + (n - k) = omega arith in
    let room = ap (λ m. m * f.size) e ∙ add-mul k (n - k) f.size in
    ap (λ m. every test (drop k (read_all f b p m))) e
    ∙ rw (read_behind f b p k (n - k)) (array_told F (n - k) b (p + k * f.size) (omega (arith, room)))

serial_zeroed : Zeroed serial_format (λ x. eqb x.0 0)
unfolding serial_format
serial_zeroed = record { told = number_told 4 }

picture_zeroed : Zeroed picture_format (λ x. eqb x.0 0)
unfolding picture_format
picture_zeroed = record { told = number_told 4 }

bytes_zeroed : (n : ℕ) → Zeroed (array n byte) zeros
bytes_zeroed n = array_zeroed n byte_zeroed

-- The book lists a place's tests, and not always in the order of its bytes.

in_threes : (a b c : Bool) → both a (both b (both c true)) ≡ both a (both b c)
in_threes a b c = rw (both_only c)

name_zeroed : Zeroed name_format name_blank
unfolding name_format serial_format every
name_zeroed = record {
  told = λ b p h.
      let n = name_format.read b p in
      in_threes (eqb n.made.0 0) (eqb n.used 0) (zeros n.text)
      ∙ (serial_zeroed then-zeroed byte_zeroed then-zeroed bytes_zeroed 64).told b p h;
}

box_zeroed : Zeroed box_format box_blank
unfolding box_format picture_format every
box_zeroed = record {
  told = λ b p h.
      let x = box_format.read b p in
      in_threes (eqb x.position 0) (eqb x.polarity 0) (eqb x.picture.0 0)
      ∙ (byte_zeroed then-zeroed byte_zeroed then-zeroed picture_zeroed).told b p h;
}

layout_zeroed : Zeroed layout_format (λ l. both (eqb l.kind 0) (both (eqb l.lines 0) (zeros l.counts)))
unfolding layout_format
layout_zeroed = record { told = (byte_zeroed then-zeroed byte_zeroed then-zeroed bytes_zeroed 6).told }

film_order : (n s k l c o m f b : Bool)
    → both n (both (both s (both k (both l (both o (both m (both f true)))))) (both c (both b true)))
    ≡ both n (both s (both (both k (both l c)) (both o (both m (both f b)))))
film_order false s k l c o m f b = refl
film_order true false k l c o m f b = refl
film_order true true false l c o m f b = refl
film_order true true true false c o m f b = refl
film_order true true true true true o m f b = rw (both_only f, both_only b, both_assoc m f b) (sym (both_assoc o (both m f) b))
film_order true true true true false o m f b = both_fails (both o (both m (both f true)))

film_zeroed : Zeroed film_format film_blank
unfolding film_format name_format serial_format layout_format box_format picture_format every
film_zeroed = record {
  told = λ b p h.
      let f = film_format.read b p in
      film_order (name_blank f.name) (eqb f.session 0) (eqb f.layout.kind 0) (eqb f.layout.lines 0) (zeros f.layout.counts) (eqb f.orientation 0) (eqb f.magnification 0) (eqb f.first.0 0) (every box_blank f.boxes)
      ∙ (name_zeroed then-zeroed byte_zeroed then-zeroed layout_zeroed then-zeroed byte_zeroed then-zeroed byte_zeroed then-zeroed serial_zeroed then-zeroed array_zeroed most_boxes box_zeroed).told b p h;
}

entry_order : (p t c n : Bool) → both p (both (both t (both c true)) (both n true)) ≡ both p (both t (both c n))
entry_order p true c n = rw (both_only c, both_only n)
entry_order p false c n = refl

entry_zeroed : Zeroed entry_format entry_blank
unfolding entry_format name_format serial_format picture_format every
entry_zeroed = record {
  told = λ b p h.
      let e = entry_format.read b p in
      entry_order (every (λ (x : Picture). eqb x.0 0) e.pictures) (eqb e.ticket 0) (eqb e.copies 0) (name_blank e.film)
      ∙ (array_zeroed most_boxes picture_zeroed then-zeroed number_zeroed 2 then-zeroed byte_zeroed then-zeroed name_zeroed).told b p h;
}

session_order : (n c p m d u l : Bool)
    → both n (both (both c (both p (both m (both d (both u true))))) (both l true)) ≡ both n (both c (both p (both m (both d (both u l)))))
session_order false c p m d u l = refl
session_order true false p m d u l = refl
session_order true true false m d u l = refl
session_order true true true false d u l = refl
session_order true true true true false u l = refl
session_order true true true true true u l = rw (both_only u, both_only l)

-- behind the byte that says whether it is live
pub session_blank_lem : (b : List ℕ) (p : ℕ) → p + session_size ≤ length b
    → session_blank (session_format.read b p) ≡ zeros (take (session_size - 1) (drop (p + 1) b))
unfolding session_format name_format serial_format every
session_blank_lem b p h =
    let s = session_format.read b p in
    session_order (name_blank s.name) (eqb s.copies 0) (eqb s.priority 0) (eqb s.medium 0) (eqb s.destination 0) (eqb s.used 0) (zeros s.label)
    ∙ (name_zeroed then-zeroed byte_zeroed then-zeroed byte_zeroed then-zeroed byte_zeroed then-zeroed byte_zeroed then-zeroed byte_zeroed then-zeroed bytes_zeroed 64).told b (p + 1) (omega arith)

-- the places from an index on
module _ (b : List ℕ) (p k : ℕ) where
  pub boxes_blank : k ≤ most_boxes → p + most_boxes * box_size ≤ length b
      → every box_blank (drop k ((array most_boxes box_format).read b p)) ≡ zeros (take ((most_boxes - k) * box_size) (drop (p + k * box_size) b))
  unfolding box_format picture_format
  boxes_blank = behind box_zeroed most_boxes b p k

  pub films_blank : k ≤ most_films → p + most_films * film_size ≤ length b
      → every film_blank (drop k ((array most_films film_format).read b p)) ≡ zeros (take ((most_films - k) * film_size) (drop (p + k * film_size) b))
  unfolding film_format name_format serial_format layout_format box_format picture_format
  films_blank = behind film_zeroed most_films b p k

  pub entries_blank : k ≤ most_entries → p + most_entries * entry_size ≤ length b
      → every entry_blank (drop k ((array most_entries entry_format).read b p)) ≡ zeros (take ((most_entries - k) * entry_size) (drop (p + k * entry_size) b))
  unfolding entry_format name_format serial_format picture_format
  entries_blank = behind entry_zeroed most_entries b p k
