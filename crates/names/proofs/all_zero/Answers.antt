use Prim.Native.Nat.{ℕ}
use mathlib.Core.Path.{sym, ◌∙◌}
use lib.Dec.{eqb}
use borrow.Author.Tests.{eq-eqb, ne_eqb}
use Rattle.names.proofs.Every.{so_far_on, so_far_not, so_far_end}
use Rattle.names.proofs.all_zero.Goals as goal
use Rattle.names.proofs.all_zero.Goals.{then-b-ne0, else-b-ne0}

pub loop-b-preserved : goal.loop-b-preserved
loop-b-preserved c =
    let o = c.loop-b in
    let h = c.loop-b-test.true in
    elim c.if-b-ne0.branch [
      | then-b-ne0 w ↦ o.invariant ∙ so_far_not (λ (b : ℕ). eqb b 0) _ 0 o.b-index o.clear h (ne_eqb _ _ w.if-b-ne0.true) ∙ rw w.clear-is
      | else-b-ne0 w ↦ o.invariant ∙ so_far_on (λ (b : ℕ). eqb b 0) _ 0 o.b-index o.clear h (eq-eqb _ _ w.if-b-ne0.false) ∙ rw w.clear-is
    ]

pub returns : goal.returns
returns c =
    let o = c.loop-b in
    sym (o.invariant ∙ so_far_end (λ (b : ℕ). eqb b 0) _ o.b-index o.clear c.loop-b-test.false)
