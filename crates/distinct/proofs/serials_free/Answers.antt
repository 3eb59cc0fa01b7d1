use borrow.Author.Rules.{rules}
use borrow.Author.Tests.{tests}
use Rattle.distinct.specs.Apart.{serials}
use Rattle.distinct.proofs.Films.{serials_free_lem}
use Rattle.distinct.proofs.Steps.{films_told}
use Rattle.distinct.proofs.serials_free.Goals as goal

pub returns : goal.returns
returns c =
    let a = c.args in
    let lem = serials_free_lem (serials a.first a.count) in
    films_told lem a.b.now a.n c.requires.0 a.from _ _ c.all.ensures.ran (λ x q k. search (rules, tests)) (λ x q k. search (rules, tests))
