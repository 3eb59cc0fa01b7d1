use Prim.Native.Nat.{◌≤◌}
use mathlib.Core.Path.{refl, sym, ◌∙◌}
use lib.ListN.{get_or}
use Rattle.texts.proofs.Turns.{counted_over, counted_not, counted_turn, counted_end}
use borrow.Author.Rules.{rules}
use Rattle.texts.proofs.digits_count.Goals as goal

pub loop-c-init : goal.loop-c-init
loop-c-init c = (search rules, refl)

pub returns-then-not-is_ascii_digit : goal.returns-then-not-is_ascii_digit
returns-then-not-is_ascii_digit c =
    let o = c.loop-c in
    let n : (48 ≤ get_or c.args.s.now o.c-index 0) × (get_or c.args.s.now o.c-index 0 ≤ 57) → ⊥ = search rules in
    (sym (o.invariant.1 ∙ counted_not _ o.v _ o.c-index c.loop-c-test.true n), search rules)

pub returns-then-most-v : goal.returns-then-most-v
returns-then-most-v c =
    let o = c.loop-c in
    let d : (48 ≤ get_or c.args.s.now o.c-index 0) × (get_or c.args.s.now o.c-index 0 ≤ 57) = search rules in
    (sym (o.invariant.1 ∙ counted_turn _ o.v _ o.c-index c.loop-c-test.true d.0 d.1 ∙ rw (← c.from.ensures) (counted_over _ _ _ c.if-most-v.true)), search rules)

pub loop-c-preserved : goal.loop-c-preserved
loop-c-preserved c =
    let o = c.loop-c in
    let d : (48 ≤ get_or c.args.s.now o.c-index 0) × (get_or c.args.s.now o.c-index 0 ≤ 57) = search rules in
    (c.if-most-v.false, rw c.from.ensures (o.invariant.1 ∙ counted_turn _ o.v _ o.c-index c.loop-c-test.true d.0 d.1))

pub returns : goal.returns
returns c =
    let o = c.loop-c in
    (sym (o.invariant.1 ∙ counted_end _ o.v _ o.c-index o.invariant.0 c.loop-c-test.false), search rules)
