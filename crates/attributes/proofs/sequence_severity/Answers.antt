use Prim.Native.Nat.{◌+◌}
use mathlib.Core.Path.{sym, ap, subst, ◌∙◌}
use native.Mathlib.Omega.{arith}
use Rattle.elements.specs.Reader.{scope_of}
use Rattle.elements.proofs.Within.{ItemsIn}
use Rattle.elements.proofs.Laws.{items_within}
use Rattle.rules.specs.Attributes.{empty, wrong, listing_of, reference_standings}
use Rattle.records.specs.Places.{core_in}
use Rattle.standings.specs.Severity.{worst}
use Rattle.attributes.proofs.Laws.{worst_one}
use Rattle.attributes.proofs.sequence_severity.Goals as goal

pub item_severity-requires : goal.item_severity-requires
item_severity-requires c =
    let a = c.args in
    let g = subst (ItemsIn (a.inside.from + 8) a.inside.stop) (sym c.items_in.ensures ∙ c.in-One.is) (items_within a.d.now (scope_of a.syntax 3 a.inside) c.requires.0) in
    (g.1.0, omega (arith, g.1.1, c.requires.1))

pub returns-in-Empty : goal.returns-in-Empty
returns-in-Empty c =
    let a = c.args in
    sym (worst_one empty) ∙ ap (λ i. worst (reference_standings (core_in a.b.now) (listing_of a.d.now a.syntax) i)) (sym (sym c.items_in.ensures ∙ c.in-Empty.is))

pub returns-in-One : goal.returns-in-One
returns-in-One c =
    let a = c.args in
    c.item_severity.ensures ∙ ap (λ i. worst (reference_standings (core_in a.b.now) (listing_of a.d.now a.syntax) i)) (sym (sym c.items_in.ensures ∙ c.in-One.is))

pub returns-in-Several : goal.returns-in-Several
returns-in-Several c =
    let a = c.args in
    sym (worst_one wrong) ∙ ap (λ i. worst (reference_standings (core_in a.b.now) (listing_of a.d.now a.syntax) i)) (sym (sym c.items_in.ensures ∙ c.in-Several.is))
