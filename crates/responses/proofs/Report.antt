-- The report's numbers, laid one after the other, are the report.
-- Assumes nothing.
use Prim.Native.Nat.{ℕ, ◌≤◌}
use mathlib.Core.Path.{◌≡◌, refl}
use mathlib.Core.List.{List, ◌++◌}
use native.Mathlib.Omega.{arith}
use lib.ListN.{length}
use Rattle.octets.specs.Octets.{octets, laid}
use Rattle.writing.proofs.Chain.{laid_next}
use Rattle.responses.specs.Parts.{report_by}

module _ (status command size kind first second third : ℕ) where
  pub report_laid : (s s₁ s₂ s₃ s₄ s₅ s₆ o : List ℕ) → 20 ≤ length s
      → s₁ ≡ laid s 0 (octets 2 status) → s₂ ≡ laid s₁ 2 (octets 2 command) → s₃ ≡ laid s₂ 4 (octets 2 size) → s₄ ≡ laid s₃ 6 (octets 2 kind)
      → s₅ ≡ laid s₄ 8 (octets 4 first) → s₆ ≡ laid s₅ 12 (octets 4 second) → o ≡ laid s₆ 16 (octets 4 third)
      → o ≡ laid s 0 (report_by status command size kind first second third)
  unfolding octets report_by
  report_laid s s₁ s₂ s₃ s₄ s₅ s₆ o h e₁ e₂ e₃ e₄ e₅ e₆ e₇ =
      let a = octets 2 status in
      let b = a ++ octets 2 command in
      let c = b ++ octets 2 size in
      let d = c ++ octets 2 kind in
      let e = d ++ octets 4 first in
      let f = e ++ octets 4 second in
      laid_next s s₆ o f (octets 4 third) 0 16 (omega arith) refl
      (laid_next s s₅ s₆ e (octets 4 second) 0 12 (omega arith) refl
      (laid_next s s₄ s₅ d (octets 4 first) 0 8 (omega arith) refl
      (laid_next s s₃ s₄ c (octets 2 kind) 0 6 (omega arith) refl
      (laid_next s s₂ s₃ b (octets 2 size) 0 4 (omega arith) refl
      (laid_next s s₁ s₂ a (octets 2 command) 0 2 (omega arith) refl e₁ e₂) e₃) e₄) e₅) e₆) e₇
