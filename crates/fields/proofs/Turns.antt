-- What one turn of a loop over an array does: of the first i elements, it makes the first i + 1.
-- Assumes nothing.
use Prim.Native.Nat.{ℕ, ◌+◌, ◌*◌, ◌<◌, ◌≤◌}
use mathlib.Core.Path.{◌≡◌, refl, sym, ap, ◌∙◌}
use mathlib.Core.List.{List, []}
use native.Mathlib.Numerals.{add-one}
use native.Mathlib.Omega.{arith}
use lib.ListN.{length, get_or, set, take}
use lib.Seq.{take-suc-set, take_all}
use Rattle.std.proofs.lemmas.List.{get_or_default}
use Rattle.octets.proofs.Laid.{laid_none}
use Rattle.fields.specs.Format.{Format, write, read_all, bytes_all, array}
use Rattle.fields.proofs.Laws.{Laws, array_laws}
use Rattle.fields.proofs.Steps.{write_then}

module _ {A : Type 0} (f : Format A) where
  -- an array is read: none of its elements, the next, all
  pub read_none : (s : List ℕ) (at : ℕ) → [] ≡ (array 0 f).read s at
  unfolding read_all
  read_none s at = refl

  pub read_turn : {n : ℕ} → f.size ≡ n → (s : List ℕ) (at i : ℕ) (xs : List A) (x : A) → i < length xs → x ≡ f.read s (at + i * n)
      → take i xs ≡ (array i f).read s at → take (i + 1) (set xs i x) ≡ (array (i + 1) f).read s at
  unfolding read_all
  read_turn w s at i xs x h e d =
      let there = e ∙ ap (λ k. f.read s (at + i * k)) (sym w) in
      rw (add-one i) (take-suc-set xs i x h ∙ rw (d, there))

  pub read_done : (s : List ℕ) (at n i : ℕ) (xs : List A) → length xs ≡ n → n ≤ i → i ≤ n
      → take i xs ≡ (array i f).read s at → xs ≡ (array n f).read s at
  read_done s at n i xs e h k d =
      let j : i ≡ n = omega arith in
      sym (take_all i xs (omega arith)) ∙ (d ∙ rw j)

  -- an array is written: none of its elements, the next, all
  pub write_none : (s : List ℕ) (at : ℕ) (xs : List A) → s ≡ write (array 0 f) xs s at
  unfolding write bytes_all
  write_none s at xs = sym (laid_none s at)

  pub write_done : (s₀ s : List ℕ) (at n i : ℕ) (xs : List A) → n ≤ i → i ≤ n
      → s ≡ write (array i f) xs s₀ at → s ≡ write (array n f) xs s₀ at
  write_done s₀ s at n i xs h k d =
      let j : i ≡ n = omega arith in
      d ∙ rw j

pub write_turn : {A : Type 0} {f : Format A} (F : Laws f) {n : ℕ} → f.size ≡ n → (s₀ s t : List ℕ) (at i : ℕ) (xs : List A) (d : A) → at + i * n ≤ length s₀ → i < length xs
    → t ≡ write f (get_or xs i d) s (at + i * n) → s ≡ write (array i f) xs s₀ at → t ≡ write (array (i + 1) f) xs s₀ at
unfolding write bytes_all
write_turn {f} F {n} w s₀ s t at i xs d h l e k =
    let x = get_or xs i f.blank in
    let there = e ∙ ap (λ y. write f y s (at + i * n)) (get_or_default xs i d f.blank l) ∙ ap (λ m. write f x s (at + i * m)) (sym w) in
    there ∙ rw (k, add-one i) (sym (write_then (array_laws i F) f (xs, x) s₀ at (rw w h)))
