use Prim.Native.Nat.{ℕ}
use mathlib.Core.Path.{◌≡◌, refl, ◌∙◌}
use mathlib.Core.List.{List}
use borrow.Author.Rules.{rules}
use borrow.Author.Tests.{tests}
use Rattle.std.proofs.iter.Serving.{serving}
use Rattle.octets.specs.Octets.{number_at}
use Rattle.rules.specs.Layout.{numbers_format}
use Rattle.rules.specs.Sound.{film_sound}
use Rattle.records.specs.Places.{numbers_in}
use Rattle.distinct.proofs.Ranges.{each_lem}
use Rattle.distinct.proofs.Steps.{films_told}
use Rattle.films.proofs.films_sound.Goals as goal

next_serial : (b : List ℕ) → number_at 5 b 41 ≡ (numbers_in b).serial
unfolding numbers_format
next_serial b = refl

next_picture : (b : List ℕ) → number_at 5 b 46 ≡ (numbers_in b).picture
unfolding numbers_format
next_picture b = refl

pub all-requires-clause-callable : goal.all-requires-clause-callable
all-requires-clause-callable c =
    let serial : c.next_at-serial.result ≡ (numbers_in c.args.b.now).serial = c.next_at-serial.ensures.0 ∙ next_serial c.args.b.now in
    let picture : c.next_at-picture.result ≡ (numbers_in c.args.b.now).picture = c.next_at-picture.ensures.0 ∙ next_picture c.args.b.now in
    grind serving

pub returns : goal.returns
returns c =
    let a = c.args in
    films_told (each_lem (film_sound (numbers_in c.args.b.now))) a.b.now a.n c.requires 0 _ _ c.all.ensures.ran (λ x q k. search (rules, tests)) (λ x q k. search (rules, tests))
