use mathlib.Core.Path.{◌≡◌, ap, sym, subst, ◌∙◌}
use mathlib.Core.List.{List}
use Prim.Native.Nat.{ℕ}
use native.Mathlib.Omega.{arith}
use lib.ListN.{take}
use Rattle.rules.specs.declared.Core.{Core}
use Rattle.rules.specs.Sound.{core_sound}
use Rattle.rules.specs.Records.{named}
use Rattle.instances.specs.There.{There}
use Rattle.instances.proofs.Front.{core_front}
use Rattle.instances.proofs.named.Goals as goal

pub named_in-requires : goal.named_in-requires
named_in-requires c =
    let front = c.in-Some.ensures.cases in
    ap core_sound (core_front _ _ (λ i. omega (arith, c.type_inv.b i)) front.enough front.same) ∙ c.requires.1

pub returns-in-Some : goal.returns-in-Some
returns-in-Some c =
    let front = c.in-Some.ensures.cases in
    subst (λ (k : Core). (c.named_in.result ≡ named k c.args.uid.now) × There k c.named_in.result) (core_front _ _ (λ i. omega (arith, c.type_inv.b i)) front.enough front.same) c.named_in.ensures
