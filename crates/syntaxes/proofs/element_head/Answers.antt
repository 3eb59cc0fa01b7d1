use mathlib.Core.Path.{◌≡◌, sym, ◌∙◌}
use Prim.Native.Nat.{◌-◌}
use native.Mathlib.Omega.{arith}
use Rattle.headers.proofs.Within.{size_least, mark_size}
use borrow.Author.Tests.{lt-ltb, le-ltb, eq-eqb}
use Rattle.headers.specs.Header.{head_at, size_at, group_at}
use Rattle.syntaxes.proofs.element_head.Goals as goal

pub returns-then-end-at-lt8 : goal.returns-then-end-at-lt8
unfolding head_at
returns-then-end-at-lt8 c =
    let a = c.args in
    simp (lt-ltb (a.end - a.at) (size_at a.s.now a.syntax a.at) (omega (arith, size_least a.s.now a.syntax a.at)))

pub returns-then-u16_at-eq65534 : goal.returns-then-u16_at-eq65534
unfolding head_at
returns-then-u16_at-eq65534 c =
    let a = c.args in
    let group : group_at a.s.now a.at ≡ 0xFFFE = sym c.u16_at.ensures.0 ∙ c.if-u16_at-eq65534.true in
    simp (mark_size a.s.now a.syntax a.at group, le-ltb _ _ c.if-end-at-lt8.false, eq-eqb _ _ group)

pub returns-in-Implicit : goal.returns-in-Implicit
returns-in-Implicit c = simp (c.in-Implicit.is, ← c.implicit_head.ensures)

pub returns-in-Explicit : goal.returns-in-Explicit
returns-in-Explicit c = simp (c.in-Explicit.is, ← c.explicit_head.ensures)
