use Prim.Native.Nat.{ℕ, ◌+◌, ◌*◌, ◌≤◌}
use mathlib.Core.Path.{◌≡◌, sym, ap, ◌∙◌}
use mathlib.Core.Bool.{true, false}
use native.Mathlib.Omega.{arith}
use borrow.Author.Rules.{rules}
use borrow.Author.Tests.{tests}
use Rattle.std.proofs.iter.Serving.{serving}
use Rattle.std.proofs.lemmas.Iterator.{first_from_Range}
use Rattle.octets.specs.Octets.{same}
use Rattle.rules.specs.Bounds.{most_films}
use Rattle.rules.specs.Layout.{name_format}
use Rattle.rules.specs.Records.{no_film, films_of, film_named, uid_of}
use Rattle.records.specs.Places.{numbers_in, shelf_in}
use Rattle.instances.proofs.Places.{first_told}
use Rattle.instances.proofs.InPlace.{shelf_count, films_counted, film_there, film_name}
use Rattle.instances.proofs.film_named.Goals as goal

pub find-requires-clause-callable : goal.find-requires-clause-callable
find-requires-clause-callable c =
    let count : c.from-count.result ≡ (shelf_in c.args.b.now).count = c.from-count.ensures ∙ sym (shelf_count c.args.b.now) in
    let few : c.from-count.result ≤ most_films = omega (arith, c.requires.0) in
    grind serving

pub returns : goal.returns
returns c =
    let b = c.args.b.now in
    let count : c.from-count.result ≡ (shelf_in b).count = c.from-count.ensures ∙ sym (shelf_count b) in
    let test = λ (i : ℕ). same c.args.uid.now (uid_of (numbers_in b) (name_format.read b (193 + i * 300))) in
    first_told (film_named (numbers_in b) c.args.uid.now) (films_of (shelf_in b)) no_film _ (films_counted b c.requires.0 ∙ sym count) test
    (λ k h. ap (film_named (numbers_in b) c.args.uid.now) (film_there b c.requires.0 k no_film (omega (arith, count))) ∙ ap (λ name. same c.args.uid.now (uid_of (numbers_in b) name)) (film_name b _)) _
    (first_from_Range _ _ _ _ (λ i. test i ≡ true) (λ i. test i ≡ false) c.find.ensures.ran (λ x q k. search (rules, tests)) (λ x q k. search (rules, tests)))
