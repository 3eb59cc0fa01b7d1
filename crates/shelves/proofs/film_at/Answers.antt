use Rattle.rules.specs.Records.{films_of}
use Rattle.shelves.proofs.Within.{few_below, few_at}
use borrow.Author.Rules.{rules}
use Rattle.shelves.proofs.film_at.Goals as goal

pub offset_bounds-films-i : goal.offset_bounds-films-i
unfolding films_of
offset_bounds-films-i c =
    let s = c.args.s in
    let b = (few_below s.films s.count c.args.i c.requires).1 in
    search rules

pub bounds-films-i : goal.bounds-films-i
unfolding films_of
bounds-films-i c =
    let s = c.args.s in
    let b = (few_below s.films s.count c.args.i c.requires).1 in
    search rules

pub returns : goal.returns
unfolding films_of
returns c =
    let s = c.args.s in
    few_at s.films s.count c.args.i _ _ c.requires
