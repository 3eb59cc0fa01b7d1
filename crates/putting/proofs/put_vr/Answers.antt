use Prim.Native.Nat.{◌+◌}
use mathlib.Core.Path.{◌∙◌}
use native.Mathlib.Omega.{arith}
use Rattle.octets.specs.Octets.{octets}
use Rattle.octets.proofs.Numbers.{octets_length}
use borrow.Author.Tests.{eqb-true, eqb-false}
use Rattle.tags.proofs.Entries.{is_given}
use Rattle.writing.proofs.Sizes.{vr_least, vr_long_length, vr_short_length}
use Rattle.writing.proofs.Chain.{laid_next, laid_next_two, vr_long, vr_short}
use Rattle.putting.proofs.put_vr.Goals as goal

pub put_number-requires : goal.put_number-requires
put_number-requires c = let a = c.args in omega (arith, vr_least a.vr a.size)

pub put_number-requires-then-eq : goal.put_number-requires-then-eq
put_number-requires-then-eq c =
    let a = c.args in omega (arith, vr_least a.vr a.size)

pub put_number-requires-then-eq-2 : goal.put_number-requires-then-eq-2
put_number-requires-then-eq-2 c =
    let a = c.args in
    omega (arith, vr_long_length a.vr a.size (eqb-true _ _ (is_given _ 12 (omega arith) c.form_of.ensures c.eq.ensures ∙ c.if-eq.true)))

pub returns-then-eq : goal.returns-then-eq
returns-then-eq c =
    let a = c.args in
    let f = eqb-true _ _ (is_given _ 12 (omega arith) c.form_of.ensures c.eq.ensures ∙ c.if-eq.true) in
    let l = vr_long_length a.vr a.size f in
    let l₁ = octets_length 2 a.vr in
    let l₂ = octets_length 2 0 in (
      rw (vr_long a.vr a.size f)
          (laid_next_two a.out.now _ _ _ (octets 2 a.vr) (octets 2 0) (octets 4 a.size) a.at (a.at + 2) (a.at + 4) (omega arith) (omega arith) (omega arith)
          c.put_number.ensures c.put_number-then-eq.ensures c.put_number-then-eq-2.ensures),
      omega arith,
    )

pub put_number-requires-2 : goal.put_number-requires-2
put_number-requires-2 c =
    let a = c.args in omega (arith, vr_least a.vr a.size)

pub returns : goal.returns
returns c =
    let a = c.args in
    let f = eqb-false _ _ (is_given _ 12 (omega arith) c.form_of.ensures c.eq.ensures ∙ c.if-eq.false) in
    let l = vr_short_length a.vr a.size f in
    let l₁ = octets_length 2 a.vr in (
      rw (vr_short a.vr a.size f)
          (laid_next a.out.now _ _ (octets 2 a.vr) (octets 2 a.size) a.at (a.at + 2) (omega arith) (omega arith)
          c.put_number.ensures c.put_number-2.ensures),
      omega arith,
    )
