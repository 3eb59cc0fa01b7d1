use mathlib.Core.Path.{ap, ◌∙◌}
use Rattle.rules.specs.Attributes.{listing_of, must_be_absent, film_set_standings}
use Rattle.standings.specs.Severity.{severity}
use Rattle.attributes.proofs.Laws.{worst_next, broken_told}
use Rattle.attributes.proofs.film_set_broken.Goals as goal

pub returns : goal.returns
unfolding film_set_standings
returns c =
    let a = c.args in
    let l = listing_of a.d.now a.syntax in
    broken_told (film_set_standings l)
    (worst_next _ _ (c.presence_severity-2.ensures ∙ ap (λ f. severity (must_be_absent f)) c.requires.format)
    (worst_next _ _ (c.presence_severity.ensures ∙ ap (λ f. severity (must_be_absent f)) c.requires.reference) c.optional_film-worst.ensures c.worse-worst.ensures)
    c.worse-worst-2.ensures)
    c.status_of.ensures
