use Prim.Native.Nat.{◌+◌}
use mathlib.Core.Path.{sym, ap, subst, ◌∙◌}
use native.Mathlib.Omega.{arith}
use lib.ListN.{length}
use Rattle.elements.specs.Reader.{data_scope}
use Rattle.elements.proofs.Within.{FoundIn}
use Rattle.elements.proofs.Laws.{find_within}
use Rattle.rules.specs.Attributes.{missing, wrong, listing_of, reference}
use Rattle.records.specs.Places.{core_in}
use Rattle.standings.specs.Severity.{worst}
use Rattle.attributes.proofs.Laws.{worst_one}
use Rattle.attributes.proofs.reference_severity.Goals as goal

pub sequence_severity-requires : goal.sequence_severity-requires
sequence_severity-requires c =
    let a = c.args in
    let g = subst (FoundIn (0 + 8) (length a.d.now)) (sym c.requires ∙ c.in-Sequence.is) (find_within a.d.now (data_scope a.d.now a.syntax) 0x2010_0500 (omega arith)) in
    (g.1.0, g.1.1)

pub returns-in-Missing : goal.returns-in-Missing
returns-in-Missing c =
    let a = c.args in
    sym (worst_one missing) ∙ ap (λ f. worst (reference (core_in a.b.now) (listing_of a.d.now a.syntax) f)) (sym c.in-Missing.is)

pub returns-in-Value : goal.returns-in-Value
returns-in-Value c =
    let a = c.args in
    sym (worst_one wrong) ∙ ap (λ f. worst (reference (core_in a.b.now) (listing_of a.d.now a.syntax) f)) (sym c.in-Value.is)

pub returns-in-Sequence : goal.returns-in-Sequence
returns-in-Sequence c =
    let a = c.args in
    c.sequence_severity.ensures ∙ ap (λ f. worst (reference (core_in a.b.now) (listing_of a.d.now a.syntax) f)) (sym c.in-Sequence.is)
