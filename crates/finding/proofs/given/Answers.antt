use Prim.Native.Nat.{ℕ}
use mathlib.Core.Path.{◌≡◌, sym, ◌∙◌}
use mathlib.Core.List.{List}
use Rattle.std.specs.Prelude.{Result, Ok}
use Rattle.headers.specs.declared.Syntax.{Syntax}
use Rattle.headers.specs.declared.Part.{Part}
use Rattle.headers.specs.declared.Head.TheVariants as head
use Rattle.headers.specs.Header.{head_at}
use Rattle.elements.specs.declared.Stop.{Stop}
use Rattle.elements.specs.declared.Found.TheVariants.{Missing, Value}
use Rattle.elements.specs.Reader.{refused_at, element_at}
use Rattle.elements.proofs.Laws.{element_fault, element_value}
use Rattle.finding.specs.Gives.{gives}
use Rattle.finding.proofs.given.Goals as goal

module _ (s : List ℕ) (syntax : Syntax) (room end at floor : ℕ) where
  of_fault : {n : ℕ} {r : Result ℕ Stop} → head_at s syntax end at floor ≡ head.Fault n → r ≡ refused_at n at room → (Missing ≡ gives (element_at s syntax room end at floor) (head_at s syntax end at floor)) × (r ≡ element_at s syntax room end at floor)
  of_fault h e = let f = element_fault s syntax room end at floor h in (rw f, e ∙ sym f)

  of_value : {part : Part} → head_at s syntax end at floor ≡ head.Value part → (Value part ≡ gives (element_at s syntax room end at floor) (head_at s syntax end at floor)) × (Ok part.stop ≡ element_at s syntax room end at floor)
  of_value h = let v = element_value s syntax room end at floor h in (rw (v, h), sym v)

pub returns-in-Fault : goal.returns-in-Fault
returns-in-Fault c =
    of_fault _ _ _ _ _ _ (sym c.element_head.ensures ∙ c.in-Fault.is) c.refused.ensures.0

pub returns-in-Value : goal.returns-in-Value
returns-in-Value c = of_value _ _ _ _ _ _ (sym c.element_head.ensures ∙ c.in-Value.is)

pub returns-in-Ok : goal.returns-in-Ok
returns-in-Ok c =
    let p = sym c.element-read.ensures.0 ∙ c.in-Ok.is in
    (rw (p, sym c.element_head.ensures ∙ c.in-Nest.is), c.element-read.ensures.0)

pub returns-in-Err : goal.returns-in-Err
returns-in-Err c =
    let p = sym c.element-read.ensures.0 ∙ c.in-Err.is in
    (rw p, c.element-read.ensures.0)
