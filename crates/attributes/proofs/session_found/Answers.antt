use Prim.Native.Nat.{ℕ}
use mathlib.Core.Path.{◌≡◌, refl, ap, ◌∙◌}
use native.Mathlib.Omega.{arith}
use Rattle.headers.specs.declared.Scope.{Scope}
use Rattle.elements.specs.Reader.{data_scope}
use Rattle.elements.specs.Find.{find_at}
use Rattle.finding.specs.Gathered.{ascending}
use Rattle.attributes.proofs.session_found.Goals as goal

pub gathered-requires : goal.gathered-requires
unfolding ascending
gathered-requires c = (omega arith, (omega arith, (c.data_scope.ensures.1, c.data_scope.ensures.2, refl)))

pub returns : goal.returns
returns c =
    let d = c.args.d.now in
    let scope = c.data_scope in
    let found = c.gathered.ensures in
    let whole : (tag : ℕ) → find_at d scope.result tag ≡ find_at d (data_scope d c.args.syntax) tag = λ tag. ap (λ (s : Scope). find_at d s tag) scope.ensures.0 in
    record {
      copies = found 0 (omega arith) ∙ whole 0x2000_0010;
      priority = found 1 (omega arith) ∙ whole 0x2000_0020;
      medium = found 2 (omega arith) ∙ whole 0x2000_0030;
      destination = found 3 (omega arith) ∙ whole 0x2000_0040;
      label = found 4 (omega arith) ∙ whole 0x2000_0050;
    }
