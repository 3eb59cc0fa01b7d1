use mathlib.Core.Path.{◌≡◌, refl}
use mathlib.Core.Bool.{true, false}
use borrow.Author.Rules.{rules}
use Rattle.choice.proofs.Picks.{both_fails}
use Rattle.rules.specs.Sound.{between}
use Rattle.names.proofs.InPlace.{numbers_unfit, numbers_told}
use Rattle.names.proofs.Tests.{and_passed, and_failed}
use Rattle.records.proofs.Whole.{numbers_whole}
use Rattle.names.proofs.numbers_sound.Goals as goal

pub returns-then-not-contains : goal.returns-then-not-contains
returns-then-not-contains c =
    let unfit : between 1 40 c.from-used.result ≡ false = search rules in
    numbers_unfit c.args.b.now (numbers_whole _ c.told-b) (rw (← c.from-used.ensures) unfit)

pub returns-then-not-is_uid : goal.returns-then-not-is_uid
returns-then-not-is_uid c =
    let fit : between 1 40 c.from-used.result ≡ true = search rules in
    numbers_told c.args.b.now (numbers_whole _ c.told-b) _ (rw (← c.from-used.ensures) fit)
    (simp (← c.root_in.ensures, ← c.is_uid.ensures, c.if-not-is_uid.true))

pub returns-then-not-zeros_in : goal.returns-then-not-zeros_in
returns-then-not-zeros_in c =
    let fit : between 1 40 c.from-used.result ≡ true = search rules in
    numbers_told c.args.b.now (numbers_whole _ c.told-b) _ (rw (← c.from-used.ensures) fit)
    (simp (← c.from-used.ensures, ← c.zeros_in.ensures, c.if-not-zeros_in.true, both_fails))

pub returns-then-next_sound : goal.returns-then-next_sound
returns-then-next_sound c =
    let fit : between 1 40 c.from-used.result ≡ true = search rules in
    numbers_told c.args.b.now (numbers_whole _ c.told-b) _ (rw (← c.from-used.ensures) fit)
    (simp (← c.from-used.ensures, ← c.root_in.ensures, ← c.is_uid.ensures, c.if-not-is_uid.false, ← c.zeros_in.ensures, c.if-not-zeros_in.false)
    (and_passed _ c.next_sound.ensures c.if-next_sound.true c.next_sound-then-next_sound.ensures))

pub returns-else-next_sound : goal.returns-else-next_sound
returns-else-next_sound c =
    let fit : between 1 40 c.from-used.result ≡ true = search rules in
    numbers_told c.args.b.now (numbers_whole _ c.told-b) _ (rw (← c.from-used.ensures) fit)
    (simp (← c.from-used.ensures, ← c.root_in.ensures, ← c.is_uid.ensures, c.if-not-is_uid.false, ← c.zeros_in.ensures, c.if-not-zeros_in.false)
    (and_failed _ c.next_sound.ensures c.if-next_sound.false refl))
