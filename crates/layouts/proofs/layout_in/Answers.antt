use mathlib.Core.Path.{refl, sym, ap, ◌∙◌}
use native.Mathlib.Omega.{arith}
use lib.ListN.{drop, length-replicate, length-drop}
use Rattle.rules.specs.Lists.{filled_to}
use Rattle.rules.specs.Values.{numbers_in}
use Rattle.octets.proofs.Parts.{rest}
use Rattle.rules.proofs.Formats.{listed_length}
use Rattle.layouts.proofs.Laws.{standard_has, uneven_has, layout_told, standard_counts, uneven_counts, no_counts}
use Rattle.layouts.proofs.layout_in.Goals as goal

pub bounds-t-11 : goal.bounds-t-11
bounds-t-11 c = omega (arith, (standard_has _ (sym c.is_standard.ensures ∙ c.if-is_standard.true)).0)

pub overflow_sub-lines : goal.overflow_sub-lines
overflow_sub-lines c = omega (arith, (standard_has _ (sym c.is_standard.ensures ∙ c.if-is_standard.true)).2.0)

pub bounds-t-9 : goal.bounds-t-9
bounds-t-9 c = omega (arith, (standard_has _ (sym c.is_standard.ensures ∙ c.if-is_standard.true)).0)

pub overflow_sub-boxes : goal.overflow_sub-boxes
overflow_sub-boxes c = omega (arith, (standard_has _ (sym c.is_standard.ensures ∙ c.if-is_standard.true)).1.0)

pub even_counts-requires : goal.even_counts-requires
even_counts-requires c = omega (arith, (standard_has _ (sym c.is_standard.ensures ∙ c.if-is_standard.true)).2.1)

pub returns-then-is_standard : goal.returns-then-is_standard
returns-then-is_standard c =
    layout_told _ c.kind_in-kind.ensures
    (standard_counts _ _ c.without_trailing-t.ensures (sym c.is_standard.ensures ∙ c.if-is_standard.true))
    (sym (length-replicate _ _))
    c.even_counts.ensures

pub overflow_sub-result : goal.overflow_sub-result
overflow_sub-result c = omega (arith, (uneven_has _ (sym c.is_uneven.ensures ∙ c.if-is_uneven.true)).1)

pub overflow_cast-result : goal.overflow_cast-result
overflow_cast-result c = omega (arith, (uneven_has _ (sym c.is_uneven.ensures ∙ c.if-is_uneven.true)).2)

pub slice_bounds-listed_counts-count : goal.slice_bounds-listed_counts-count
slice_bounds-listed_counts-count c = omega (arith, (uneven_has _ (sym c.is_uneven.ensures ∙ c.if-is_uneven.true)).1)

pub slice_bounds-listed_counts-start : goal.slice_bounds-listed_counts-start
slice_bounds-listed_counts-start c = omega (arith, (uneven_has _ (sym c.is_uneven.ensures ∙ c.if-is_uneven.true)).1)

pub listed_counts-requires : goal.listed_counts-requires
listed_counts-requires c =
    let t = c.without_trailing-t.result.now in
    let has = uneven_has t (sym c.is_uneven.ensures ∙ c.if-is_uneven.true) in
    rw (rest t 4) (has.0, omega (arith, has.2, length-drop 4 t))

pub returns-then-is_uneven : goal.returns-then-is_uneven
returns-then-is_uneven c =
    let t = c.without_trailing-t.result.now in
    let uneven = sym c.is_uneven.ensures ∙ c.if-is_uneven.true in
    let has = uneven_has t uneven in
    let n = listed_length (drop 4 t) has.0 in
    layout_told _ c.kind_in-kind.ensures
    (uneven_counts _ _ c.without_trailing-t.ensures (sym c.is_standard.ensures ∙ c.if-is_standard.false) uneven)
    (omega (arith, has.1, length-drop 4 t))
    (c.listed_counts.ensures ∙ ap (λ z. filled_to 6 0 (numbers_in z)) (rest t 4))

pub returns : goal.returns
returns c =
    layout_told _ c.kind_in-kind.ensures
    (no_counts _ _ c.without_trailing-t.ensures (sym c.is_standard.ensures ∙ c.if-is_standard.false) (sym c.is_uneven.ensures ∙ c.if-is_uneven.false))
    refl
    refl
