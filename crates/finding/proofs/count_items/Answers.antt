use Prim.Native.Nat.{ℕ, ◌+◌}
use native.Mathlib.Omega.{arith}
use mathlib.Core.Path.{◌≡◌, sym, ap, ◌∙◌}
use mathlib.Core.List.{List, []}
use lib.ListN.{length}
use Rattle.elements.proofs.Laws.{item_past, items_of_done, items_of_refused, items_of_more}
use Rattle.finding.proofs.count_items.Goals as goal

none_left : {count all : ℕ} {l : List ℕ} → count + length l ≡ all → l ≡ [] → count ≡ all
none_left e f = let g = ap length f in omega arith

pub loop-q-init : goal.loop-q-init
loop-q-init c = (c.requires.0, omega arith, omega arith)

pub returns-in-Some : goal.returns-in-Some
returns-in-Some c =
    let o = c.loop-q in
    none_left o.invariant.2 (items_of_done _ _ _ o.invariant.0 (sym c.closing.ensures ∙ c.in-Some.is))

pub overflow_add-count : goal.overflow_add-count
overflow_add-count c =
    let o = c.loop-q in
    let b = item_past _ _ _ o.invariant.0 _ _ (sym c.item.ensures.0 ∙ c.in-Ok.is) in
    omega arith

pub loop-q-smaller : goal.loop-q-smaller
loop-q-smaller c =
    let o = c.loop-q in
    let b = item_past _ _ _ o.invariant.0 _ _ (sym c.item.ensures.0 ∙ c.in-Ok.is) in
    omega arith

pub loop-q-preserved : goal.loop-q-preserved
loop-q-preserved c =
    let o = c.loop-q in
    let e = sym c.item.ensures.0 ∙ c.in-Ok.is in
    let b = item_past _ _ _ o.invariant.0 _ _ e in
    let l = ap length (items_of_more _ _ _ o.invariant.0 (sym c.closing.ensures ∙ c.in_default.is) e) in
    (b.1, omega arith, omega arith)

pub returns-in_default-read : goal.returns-in_default-read
returns-in_default-read c =
    let o = c.loop-q in
    none_left o.invariant.2 (items_of_refused _ _ _ o.invariant.0 (sym c.closing.ensures ∙ c.in_default.is) (sym c.item.ensures.0 ∙ c.in_default-read.is))
