use mathlib.Core.List.{[], ◌∷◌}
use borrow.Author.Rules.{rules}
use borrow.Author.Tests.{tests}
use Rattle.rules.specs.Sound.{has_session}
use Rattle.records.specs.Places.{session_in}
use Rattle.distinct.proofs.Ranges.{each_lem}
use Rattle.distinct.proofs.Steps.{films_told}
use Rattle.films.proofs.films_owned.Goals as goal

pub returns : goal.returns
returns c =
    let a = c.args in
    films_told (each_lem (has_session (session_in c.args.b.now ∷ []))) a.b.now a.n c.requires 0 _ _ c.all.ensures.ran (λ x q k. search (rules, tests)) (λ x q k. search (rules, tests))
