use mathlib.Core.Path.{◌≡◌, sym, ap, ◌∙◌}
use native.Mathlib.Omega.{arith}
use lib.ListN.{length}
use borrow.Author.Tests.{le-leb, lt-leb}
use Rattle.octets.specs.Octets.{part}
use Rattle.uids.specs.Uids.{component, is_uid}
use Rattle.uids.proofs.Turns.{components_dot, components_on, components_end}
use Rattle.uids.proofs.is_uid.Goals as goal
use Rattle.uids.proofs.is_uid.Goals.{then-c-eq46+else-not-is_component, else-c-eq46}

pub returns-then-s-gt64 : goal.returns-then-s-gt64
unfolding is_uid
returns-then-s-gt64 c = simp (lt-leb _ _ c.if-s-gt64.true)

pub returns-then-not-is_component : goal.returns-then-not-is_component
unfolding is_uid
returns-then-not-is_component c =
    let o = c.loop-i in
    sym (rw (le-leb _ _ c.if-s-gt64.false) (o.invariant.1 ∙ components_dot _ o.from o.i c.loop-i-test.true c.if-c-eq46.true ∙ rw (← c.is_component.ensures, c.if-not-is_component.true)))

pub loop-i-preserved : goal.loop-i-preserved
loop-i-preserved c =
    let o = c.loop-i in
    let h = c.loop-i-test.true in
    elim c.if-c-eq46.branch [
      | then-c-eq46+else-not-is_component w ↦ (omega arith, o.invariant.1 ∙ components_dot _ o.from o.i h w.if-c-eq46.true ∙ rw (← w.is_component.ensures, w.if-not-is_component.false, w.from-is))
      | else-c-eq46 w ↦ (omega arith, o.invariant.1 ∙ components_on _ o.from o.i o.invariant.0 h w.if-c-eq46.false ∙ rw w.from-is)
    ]

pub returns : goal.returns
unfolding is_uid
returns c =
    let o = c.loop-i in
    let s = c.args.s.now in
    let z : o.i ≡ length s = omega arith in
    sym (rw (le-leb _ _ c.if-s-gt64.false) (o.invariant.1 ∙ components_end s _ o.i c.loop-i-test.false ∙ ap (λ k. component (part s o.from k)) z ∙ sym c.is_component-2.ensures))
