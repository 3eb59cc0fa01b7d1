use mathlib.Core.Path.{ap, ◌∙◌}
use lib.Dec.{eqb}
use lib.ListN.{length}
use Rattle.choice.specs.Pick.{not}
use Rattle.rules.specs.Values.{blank, counts_in}
use Rattle.rules.specs.Attributes.{listing_of, reference, film_create_standings}
use Rattle.records.specs.Places.{core_in}
use Rattle.standings.specs.Severity.{worst}
use Rattle.attributes.proofs.Laws.{found_placed, mandatory_listed, worst_next, worst_both, broken_told}
use Rattle.attributes.proofs.film_create_broken.Goals as goal

pub format_severity-requires : goal.format_severity-requires
format_severity-requires c =
    found_placed c.args.d.now c.args.syntax 0x2010_0010 c.requires.format

pub returns : goal.returns
unfolding film_create_standings
returns c =
    let a = c.args in
    let k = core_in a.b.now in
    let l = listing_of a.d.now a.syntax in
    broken_told (film_create_standings k l)
    (worst_next _ _ (mandatory_listed blank (λ v. not (eqb (length (counts_in v)) 0)) l 0x2010_0010 c.requires.format c.format_severity.ensures)
    (worst_both _ _ (c.reference_severity.ensures ∙ ap (λ f. worst (reference k l f)) c.requires.reference) c.optional_film-worst.ensures c.worse-worst.ensures)
    c.worse-worst-2.ensures)
    c.status_of.ensures
