use mathlib.Core.Path.{sym, ap, subst, ◌∙◌}
use mathlib.Core.List.{List}
use Prim.Native.Nat.{ℕ}
use Rattle.octets.proofs.Parts.{rest}
use Rattle.instances.specs.Serials.{told, MadeOf}
use Rattle.instances.proofs.Serials.{made_short, made_so, made_never}
use Rattle.instances.proofs.made_serial.Goals as goal

pub returns-then-uid-dot : goal.returns-then-uid-dot
returns-then-uid-dot c =
    subst (λ (r : List ℕ). MadeOf r c.args.uid.now 0) c.root_in-root.ensures (made_short _ _ c.if-uid-dot.true)

pub returns-then-is_made : goal.returns-then-is_made
returns-then-is_made c =
    subst (λ (r : List ℕ). MadeOf r c.args.uid.now c.number_told-serial.result) c.root_in-root.ensures
    (made_so _ c.args.uid.now _ c.number_told-serial.ensures.1 (sym c.is_made.ensures ∙ c.if-is_made.true))

pub returns : goal.returns
returns c =
    subst (λ (r : List ℕ). MadeOf r c.args.uid.now 0) c.root_in-root.ensures
    (made_never _ c.args.uid.now _ (c.number_told-serial.ensures.0 ∙ ap (told 0) (rest c.args.uid.now _)) (sym c.is_made.ensures ∙ c.if-is_made.false))
