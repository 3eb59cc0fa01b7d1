use Prim.Native.Nat.{ℕ}
use mathlib.Core.Path.{◌≡◌, refl, ◌∙◌}
use mathlib.Core.List.{List}
use borrow.Author.Rules.{rules}
use borrow.Author.Tests.{tests}
use Rattle.std.proofs.iter.Serving.{serving}
use Rattle.octets.specs.Octets.{number_at}
use Rattle.rules.specs.Layout.{numbers_format}
use Rattle.rules.specs.Sound.{entry_sound}
use Rattle.records.specs.Places.{numbers_in}
use Rattle.entries.proofs.Queue.{entries_told}
use Rattle.entries.proofs.entries_sound.Goals as goal

next_picture : (b : List ℕ) → number_at 5 b 46 ≡ (numbers_in b).picture
unfolding numbers_format
next_picture b = refl

pub all-requires-clause-callable : goal.all-requires-clause-callable
all-requires-clause-callable c =
    let picture : c.next_at-picture.result ≡ (numbers_in c.args.b.now).picture = c.next_at-picture.ensures.0 ∙ next_picture c.args.b.now in
    grind serving

pub returns : goal.returns
returns c =
    let a = c.args in
    entries_told (entry_sound (numbers_in a.b.now)) a.b.now a.n c.requires _ _ c.all.ensures.ran (λ x q k. search (rules, tests)) (λ x q k. search (rules, tests))
