use Prim.Native.Nat.{ℕ, ◌+◌, ◌*◌, ◌≤◌}
use mathlib.Core.Path.{◌≡◌, sym, ap, ◌∙◌}
use mathlib.Core.Bool.{true, false}
use native.Mathlib.Omega.{arith}
use borrow.Author.Rules.{rules}
use borrow.Author.Tests.{tests}
use Rattle.std.proofs.iter.Serving.{serving}
use Rattle.std.proofs.lemmas.Iterator.{first_from_Range}
use Rattle.rules.specs.Bounds.{most_films}
use Rattle.rules.specs.Layout.{film_format}
use Rattle.rules.specs.Records.{no_film, films_of}
use Rattle.records.specs.Places.{shelf_in}
use Rattle.instances.specs.Serials.{box_serial}
use Rattle.instances.proofs.Places.{first_told}
use Rattle.instances.proofs.InPlace.{shelf_count, films_counted, film_there}
use Rattle.instances.proofs.film_with_box.Goals as goal

pub find-requires-clause-callable : goal.find-requires-clause-callable
find-requires-clause-callable c =
    let count : c.from-count.result ≡ (shelf_in c.args.b.now).count = c.from-count.ensures ∙ sym (shelf_count c.args.b.now) in
    let few : c.from-count.result ≤ most_films = omega (arith, c.requires) in
    grind serving

pub returns : goal.returns
returns c =
    let b = c.args.b.now in
    let count : c.from-count.result ≡ (shelf_in b).count = c.from-count.ensures ∙ sym (shelf_count b) in
    let test = λ (i : ℕ). box_serial c.args.serial (film_format.read b (193 + i * 300)) in
    first_told (box_serial c.args.serial) (films_of (shelf_in b)) no_film _ (films_counted b c.requires ∙ sym count) test
    (λ k h. ap (box_serial c.args.serial) (film_there b c.requires k no_film (omega (arith, count)))) _
    (first_from_Range _ _ _ _ (λ i. test i ≡ true) (λ i. test i ≡ false) c.find.ensures.ran (λ x q k. search (rules, tests)) (λ x q k. search (rules, tests)))
