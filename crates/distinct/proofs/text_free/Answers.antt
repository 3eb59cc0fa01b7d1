use Prim.Native.Nat.{ℕ}
use mathlib.Core.Path.{◌≡◌, refl, sym}
use mathlib.Core.List.{List, [], ◌∷◌}
use native.Mathlib.Omega.{arith}
use lib.ListN.{length}
use borrow.Author.Rules.{rules}
use borrow.Author.Tests.{tests}
use Rattle.distinct.proofs.Films.{text_free_lem, no_text}
use Rattle.distinct.proofs.Steps.{films_told}
use Rattle.distinct.proofs.text_free.Goals as goal

empty : (text : List ℕ) → length text ≡ 0 → text ≡ []
empty [] e = refl
empty (x ∷ text) e = absurd (omega arith)

pub returns-then-text-eq0 : goal.returns-then-text-eq0
returns-then-text-eq0 c = sym (no_text c.args.text.now _ (empty _ c.if-text-eq0.true))

pub returns : goal.returns
returns c =
    let a = c.args in
    let lem = text_free_lem a.text.now in
    films_told lem a.b.now a.n c.requires a.from _ _ c.all.ensures.ran (λ x q k. (search rules, search (rules, tests))) (λ x q k. search (rules, tests))
