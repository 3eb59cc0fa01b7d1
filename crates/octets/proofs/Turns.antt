-- What one turn of each loop does.
-- Assumes nothing.
use Prim.Native.Nat.{ℕ, suc, ◌+◌, ◌*◌, ◌-◌, ◌<◌, ◌≤◌, ◌/◌, ◌%◌, ◌^◌}
use mathlib.Core.Path.{◌≡◌, sym, ap, ◌∙◌}
use mathlib.Core.List.{List, [], ◌∷◌, ◌++◌, append-nil, append_assoc}
use native.Mathlib.Nat.{pow-le-pow_right, lt_of_lt_of_le}
use native.Mathlib.Numerals.{add-one}
use native.Mathlib.Omega.{arith}
use lib.ListN.{length, get_or, set, take, drop, length-append, length-drop}
use lib.Seq.{take-suc, take_all, drop-drop, get_or-drop}
use borrow.Rule.Slice.PartMut.{put_mid}
use mir.Syntax.{w8}
use mir.Val.{Fits}
use Rattle.std.proofs.lemmas.List.{same_from_push, take_more_set}
use Rattle.octets.specs.Octets.{number_at, big_number_at, octets, part, laid}
use Rattle.octets.proofs.Numbers.{below_step}
use Rattle.octets.proofs.Parts.{part_length}

-- a number of at most seven bytes has room for one more
pub small : {k v : ℕ} → k ≤ 7 → v < 256 ^ k → v < 72057594037927936
small {k} {v} h l = lt_of_lt_of_le l (pow-le-pow_right (omega arith) h)

-- a little-endian number is read from its last byte to its first: `rest` are the bytes to come, and x is the last of them
module _ (s : List ℕ) (at w v : ℕ) (rest before : List ℕ) (x : ℕ) (o : (i : ℕ) → Fits w8 (get_or s i 0)) (r : at + w ≤ length s) (e : rest ≡ before ++ (x ∷ [])) (h : length rest ≤ w)
    (d : rest ≡ take (length rest) (drop at s)) (l : v < 256 ^ (w - length rest)) where
  one_more : length rest ≡ suc (length before)
  one_more = rw e (simp length-append (omega arith))

  left : w - length before ≡ suc (w - length rest)
  left = omega (arith, one_more)

  parted : (before ≡ take (length before) (drop at s)) × (x ≡ get_or (drop at s) (length before) 0)
  parted =
      let k : length before < length (drop at s) = omega (arith, one_more, length-drop at s) in
      same_from_push before (take (length before) (drop at s)) x (get_or (drop at s) (length before) 0)
      (sym e ∙ d ∙ rw one_more (take-suc (drop at s) (length before) 0 k))

  here : x ≡ get_or s (at + length before) 0
  here = parted.1 ∙ get_or-drop at s (length before) 0

  pub byte_turn : x < 256
  byte_turn = rw here (omega (arith, o (at + length before)))

  pub room_turn : w ≤ 8 → v < 72057594037927936
  room_turn k = small {k = w - length rest} {v = v} (omega (arith, one_more)) l

  pub value_turn : v ≡ number_at (w - length rest) s (at + length rest)
      → (length before ≤ w) × (before ≡ take (length before) (drop at s)) × (x + 256 * v ≡ number_at (w - length before) s (at + length before)) × (x + 256 * v < 256 ^ (w - length before))
  unfolding number_at
  value_turn k =
      let b : at + length before + 1 ≡ at + length rest = omega (arith, one_more) in (
        omega (arith, one_more),
        parted.0,
        rw (left, ← here, b) (ap (λ (n : ℕ). x + 256 * n) k),
        rw left (below_step (w - length rest) x v byte_turn l),
      )

-- a big-endian one from its first to its last
pub big_turn : (s : List ℕ) (at i v x : ℕ) → x ≡ get_or s (at + i) 0 → v ≡ big_number_at i s at → 256 * v + x ≡ big_number_at (i + 1) s at
unfolding big_number_at
big_turn s at i v x e d = rw (add-one i, e, d)

pub big_below_turn : (i v x : ℕ) → x < 256 → v < 256 ^ i → 256 * v + x < 256 ^ (i + 1)
big_below_turn i v x a b = let h = below_step i x v a b in rw (add-one i) (omega arith)

-- a number is written from its first byte to its last
pub octets_turn : (bytes : List ℕ) (w x v i : ℕ) → i < w → i < length bytes → octets w x ≡ take i bytes ++ octets (w - i) v
    → octets w x ≡ take (i + 1) (set bytes i (v % 256)) ++ octets (w - (i + 1)) (v / 256)
unfolding octets
octets_turn bytes w x v i h r d =
    let a : w - i ≡ suc (w - (i + 1)) = omega arith in
    d ∙ ap (λ (n : ℕ). take i bytes ++ octets n v) a
    ∙ rw (take_more_set bytes i (v % 256) r) (sym (append_assoc (take i bytes) (v % 256 ∷ []) (octets (w - (i + 1)) (v / 256))))

pub octets_done : (s bytes : List ℕ) (at w x v i : ℕ) → at + w ≤ length s → length bytes ≡ length (part s at (at + w)) → length (part s at (at + w)) ≤ i
    → octets w x ≡ take i bytes ++ octets (w - i) v → put_mid at (at + w - at) s bytes ≡ laid s at (octets w x)
unfolding octets
octets_done s bytes at w x v i h k r d =
    let n = part_length s at w h in
    let a : w - i ≡ 0 = omega arith in
    let b : at + w - at ≡ w = omega arith in
    let e : octets w x ≡ bytes = d ∙ rw (a, take_all i bytes (omega arith), append-nil) in
    let l : length bytes ≡ w = omega arith in
    rw (b, e, l, drop-drop w at s)
