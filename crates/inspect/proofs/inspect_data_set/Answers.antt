use mathlib.Core.Path.{◌≡◌, refl, sym, ap, ◌∙◌}
use mathlib.Core.List.{List}
use Prim.Native.Nat.{ℕ, ◌<◌, ◌≤◌}
use native.Mathlib.Omega.{arith}
use lib.ListN.{length}
use borrow.Author.Tests.{lt-ltb, le-ltb, lt-leb, le-leb}
use Rattle.std.specs.Prelude.{Result}
use Rattle.headers.specs.declared.Syntax.{Syntax}
use Rattle.headers.specs.Header.{syntax_of}
use Rattle.elements.specs.declared.Stop.{Stop}
use Rattle.elements.specs.Reader.{data_set}
use Rattle.elements.specs.Passed.{headers_passed}
use Rattle.elements.proofs.Stops.{stop_within}
use Rattle.inspect.specs.Inspected.{Inspected, numbered, headers_laid, told, inspected}
use Rattle.inspect.proofs.inspect_data_set.Goals as goal

module _ (s : List ℕ) (syntax : ℕ) (b : List ℕ) where
  short : length b < 12 → inspected s syntax b ≡ numbered 9 b
  unfolding inspected
  short h = rw (lt-ltb _ _ h)

  below : 12 ≤ length b → syntax < 1 → inspected s syntax b ≡ numbered 8 b
  unfolding inspected
  below h l = rw (le-ltb _ _ h, lt-leb _ _ l)

  above : 12 ≤ length b → 1 ≤ syntax → 2 < syntax → inspected s syntax b ≡ numbered 8 b
  unfolding inspected
  above h l g = rw (le-ltb _ _ h, le-leb _ _ l, lt-leb _ _ g)

  reads : 12 ≤ length b → 1 ≤ syntax → syntax ≤ 2 → (x : Syntax) → x ≡ syntax_of syntax → (r : Result ℕ Stop) → data_set s x ≡ r → inspected s syntax b ≡ told (headers_laid b (headers_passed s x)) r
  unfolding inspected
  reads h l g x z r e = rw (le-ltb _ _ h, le-leb _ _ l, le-leb _ _ g, ← z, e)

so : {x y : Inspected} → x ≡ y → {n : ℕ} {b : List ℕ} → n ≡ y.answer → b ≡ y.reading → (n ≡ x.answer) × (b ≡ x.reading)
so e f g = (f ∙ ap (λ (z : Inspected). z.answer) (sym e), g ∙ ap (λ (z : Inspected). z.reading) (sym e))

pub returns-then-reading-lt12 : goal.returns-then-reading-lt12
returns-then-reading-lt12 c = so (short _ _ _ c.if-reading-lt12.true) refl refl

pub returns-then-syntax-lt1 : goal.returns-then-syntax-lt1
returns-then-syntax-lt1 c = so (below _ _ _ c.if-reading-lt12.false c.if-syntax-lt1.true) refl refl

pub returns-then-syntax-gt2 : goal.returns-then-syntax-gt2
returns-then-syntax-gt2 c = so (above _ _ _ c.if-reading-lt12.false c.if-syntax-lt1.false c.if-syntax-gt2.true) refl refl

pub returns-in-Ok : goal.returns-in-Ok
unfolding headers_laid
returns-in-Ok c =
    so (reads _ _ _ c.if-reading-lt12.false c.if-syntax-lt1.false c.if-syntax-gt2.false _ c.syntax_of.ensures _ (sym c.data_set-told.ensures.0 ∙ c.in-Ok.is)) refl (rw (← c.data_set-told.ensures.1) c.put_number.ensures)

pub overflow_cast-result : goal.overflow_cast-result
overflow_cast-result c =
    let within = stop_within _ _ (sym c.data_set-told.ensures.0 ∙ c.in-Err.is) in
    omega arith

pub returns-in-Err : goal.returns-in-Err
unfolding headers_laid
returns-in-Err c =
    so (reads _ _ _ c.if-reading-lt12.false c.if-syntax-lt1.false c.if-syntax-gt2.false _ c.syntax_of.ensures _ (sym c.data_set-told.ensures.0 ∙ c.in-Err.is)) refl (rw (← c.data_set-told.ensures.1, ← c.put_number.ensures) c.put_stop.ensures)
