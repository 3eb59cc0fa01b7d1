-- A front of a list that is long enough: a value is read there as in the list, and bytes laid into it, with the rest behind it, are laid into the list.
-- Assumes nothing.
use Prim.Native.Nat.{ℕ, ◌+◌, ◌-◌, ◌≤◌}
use mathlib.Core.Path.{◌≡◌, sym, ap, ◌∙◌}
use mathlib.Core.List.{List, ◌++◌, append_assoc}
use native.Mathlib.Omega.{arith}
use lib.ListN.{length, take, drop, take-append-drop, length-take}
use lib.Seq.{take-take, drop-drop}
use Rattle.std.proofs.lemmas.List.{drop-take}
use Rattle.octets.specs.Octets.{part, laid, Bytes}
use Rattle.fields.specs.Format.{Format}
use Rattle.fields.proofs.Laws.{Laws}

module _ (s : List ℕ) (n : ℕ) where
  part_front : (at stop : ℕ) → at ≤ stop → stop ≤ n → part (take n s) at stop ≡ part s at stop
  part_front at stop i h =
      let e : at + (n - at) ≡ n = omega arith in
      ap (λ (t : List ℕ). take (stop - at) t) (ap (λ (m : ℕ). drop at (take m s)) (sym e) ∙ drop-take at (n - at) s)
      ∙ take-take (stop - at) (n - at) (drop at s) (omega arith)

  behind : (k : ℕ) → k ≤ n → drop k (take n s) ++ drop n s ≡ drop k s
  behind k h =
      let e : k + (n - k) ≡ n = omega arith in
      ap (λ (m : ℕ). drop k (take m s) ++ drop m s) (sym e)
      ∙ rw (drop-take k (n - k) s, ← drop-drop (n - k) k s) (take-append-drop (n - k) (drop k s))

  pub laid_front : (at : ℕ) (bytes : List ℕ) → at + length bytes ≤ n → laid (take n s) at bytes ++ drop n s ≡ laid s at bytes
  laid_front at bytes h =
      append_assoc (take at (take n s)) (bytes ++ drop (at + length bytes) (take n s)) (drop n s)
      ∙ rw (append_assoc bytes (drop (at + length bytes) (take n s)) (drop n s), behind (at + length bytes) h, take-take at n s (omega arith))

  pub read_front : {A : Type 0} {f : Format A} → Laws f → Bytes s → (at : ℕ) → at + f.size ≤ n → n ≤ length s → f.read (take n s) at ≡ f.read s at
  read_front {A} {f} F o at h l =
      let e : at + length (f.bytes (f.read s at)) ≡ at + f.size = ap (λ (m : ℕ). at + m) (F.sized (f.read s at)) in
      F.back (f.read s at) (take n s) at (F.good s at o)
      (ap (λ (m : ℕ). part (take n s) at m) e ∙ part_front at (at + f.size) (omega arith) h ∙ sym (F.forth s at o (omega arith)))
