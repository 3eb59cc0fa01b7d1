use Prim.Native.Nat.{ℕ, ◌≤◌}
use native.Mathlib.Omega.{arith}
use mathlib.Core.Path.{◌≡◌, refl, sym, ◌∙◌}
use mathlib.Core.List.{List}
use Rattle.std.specs.Prelude.{None, Result, Ok, Err}
use Rattle.headers.specs.declared.Scope.{Scope}
use Rattle.headers.specs.Header.{tag_at, head_at, close_at}
use Rattle.elements.specs.declared.Stop.{Stop}
use Rattle.elements.specs.Reader.{item_end, element_in}
use Rattle.elements.specs.Find.{among, elements_from, find_at}
use Rattle.elements.proofs.Laws.{element_past, find_done, find_short, find_above, find_refused, find_here, find_more}
use Rattle.finding.specs.Gives.{gives}
use Rattle.finding.proofs.find.Goals as goal

find_given : (s : List ℕ) (scope : Scope) (at : ℕ) → at ≤ scope.inside.stop → (floor tag : ℕ) (r : Result ℕ Stop) → element_in s scope scope.inside.stop at floor ≡ r → close_at s item_end scope.inside at ≡ None → tag_at s at ≡ tag
    → among s scope.syntax scope.inside.stop tag (elements_from s scope (record { at = at; floor = floor })) ≡ gives r (head_at s scope.syntax scope.inside.stop at floor)
find_given s scope at h floor tag (Ok q) e k t = find_here s scope at h floor tag k e t
find_given s scope at h floor tag (Err stop) e k t = find_refused s scope at h floor tag k e

pub loop-t-init : goal.loop-t-init
unfolding find_at
loop-t-init c = (c.requires.0, refl)

pub returns-in-Some : goal.returns-in-Some
returns-in-Some c =
    sym (c.loop-t.invariant.1 ∙ find_done _ _ _ c.loop-t.invariant.0 _ _ (sym c.closing.ensures ∙ c.in-Some.is))

pub returns-then-inside-p-lt8 : goal.returns-then-inside-p-lt8
returns-then-inside-p-lt8 c =
    sym (c.loop-t.invariant.1 ∙ find_short _ _ _ c.loop-t.invariant.0 _ _ (sym c.closing.ensures ∙ c.in_default.is) c.if-inside-p-lt8.true)

pub returns-then-tag-t : goal.returns-then-tag-t
returns-then-tag-t c =
    sym (c.loop-t.invariant.1 ∙ find_above _ _ _ c.loop-t.invariant.0 _ _ (sym c.closing.ensures ∙ c.in_default.is) (rw c.tag_at-t.ensures.0 at c.if-tag-t.true))

pub returns-then-t-tag : goal.returns-then-t-tag
returns-then-t-tag c =
    c.given.ensures.0
    ∙ sym (c.loop-t.invariant.1 ∙ find_given _ _ _ c.loop-t.invariant.0 _ _ _ refl (sym c.closing.ensures ∙ c.in_default.is) (sym c.tag_at-t.ensures.0 ∙ c.if-t-tag.true))

pub loop-t-smaller : goal.loop-t-smaller
loop-t-smaller c =
    let b = element_past _ _ _ _ _ c.loop-t.invariant.0 _ (sym c.element.ensures.0 ∙ c.in-Ok.is) in
    omega arith

pub loop-t-preserved : goal.loop-t-preserved
loop-t-preserved c =
    let e = sym c.element.ensures.0 ∙ c.in-Ok.is in
    let d = c.tag_at-t.ensures.0 in
    ((element_past _ _ _ _ _ c.loop-t.invariant.0 _ e).1, rw d (c.loop-t.invariant.1 ∙ find_more _ _ _ c.loop-t.invariant.0 _ _ (sym c.closing.ensures ∙ c.in_default.is) e (λ x. c.if-t-tag.false (d ∙ x))))

pub returns-in_default-read : goal.returns-in_default-read
returns-in_default-read c =
    sym (c.loop-t.invariant.1 ∙ find_refused _ _ _ c.loop-t.invariant.0 _ _ (sym c.closing.ensures ∙ c.in_default.is) (sym c.element.ensures.0 ∙ c.in_default-read.is))
