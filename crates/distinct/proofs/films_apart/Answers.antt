use borrow.Author.Rules.{rules}
use borrow.Author.Tests.{tests}
use Rattle.distinct.proofs.Films.{serials_apart_lem}
use Rattle.distinct.proofs.Steps.{films_told}
use Rattle.distinct.proofs.films_apart.Goals as goal

pub returns : goal.returns
returns c =
    let a = c.args in
    films_told serials_apart_lem a.b.now a.n c.requires 0 _ _ c.all.ensures.ran (λ x q k. search (rules, tests)) (λ x q k. search (rules, tests))
