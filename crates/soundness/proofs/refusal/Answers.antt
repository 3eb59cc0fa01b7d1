use mathlib.Core.Path.{sym, ◌∙◌}
use native.Mathlib.Omega.{arith}
use borrow.Author.Tests.{le-leb, le-ltb}
use Rattle.soundness.proofs.Refused.{front_sound}
use Rattle.soundness.proofs.refusal.Goals as goal

pub returns-in-Some : goal.returns-in-Some
returns-in-Some c =
    let front = c.in-Some.ensures.cases in
    let told = sym (front_sound _ _ (λ i. omega (arith, c.type_inv.bytes i)) front.enough front.same _ c.state_sound.ensures) ∙ c.if-state_sound.true in
    simp (told, le-leb _ _ front.enough, le-ltb _ _ front.enough)

pub returns-in-Some-2 : goal.returns-in-Some-2
returns-in-Some-2 c =
    let front = c.in-Some.ensures.cases in
    let told = sym (front_sound _ _ (λ i. omega (arith, c.type_inv.bytes i)) front.enough front.same _ c.state_sound.ensures) ∙ c.if-state_sound.false in
    simp (told, le-leb _ _ front.enough)
