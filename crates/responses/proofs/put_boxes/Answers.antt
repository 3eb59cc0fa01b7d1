use mathlib.Core.Path.{refl, ◌∙◌}
use native.Mathlib.Omega.{arith}
use native.Mathlib.Numerals.{unary_clauses}
use Rattle.responses.proofs.Film.{boxes_turn, boxes_done}
use borrow.Author.Rules.{rules}
use Rattle.responses.proofs.put_boxes.Goals as goal

pub loop-i-init : goal.loop-i-init
loop-i-init c = (search rules, refl, search rules, simp unary_clauses, simp unary_clauses)

pub loop-i-preserved : goal.loop-i-preserved
loop-i-preserved c =
    let a = c.args in
    let o = c.loop-i in
    let box = c.put_box-p in
    let turn = boxes_turn a.syntax a.root.now o.out box.new.out a.first a.count o.i o.p box.result (search rules) (omega arith) box.ensures.2 box.ensures.0 box.ensures.1 in
    (search rules, search rules, omega arith, o.invariant.3 ∙ turn.0, o.invariant.4 ∙ turn.1)

pub returns : goal.returns
returns c = let a = c.args in
    let o = c.loop-i in
    let done = boxes_done a.syntax a.root.now a.out.now o.out a.first a.count a.at o.i o.p o.invariant.0 (search rules) o.invariant.3 o.invariant.4 in
    (done.0, done.1, omega arith)
