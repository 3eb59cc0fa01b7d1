use Prim.Native.Nat.{◌-◌, ◌*◌, ◌<◌}
use mathlib.Core.Path.{refl, sym, ap, ◌∙◌}
use native.Mathlib.Omega.{arith}
use lib.ListN.{length, get_or, set}
use Rattle.rules.specs.Values.{numbers_in}
use Rattle.rules.proofs.Formats.{listed_length}
use Rattle.layouts.proofs.Laws.{number_at, lines_turn, lines_done}
use borrow.Author.Rules.{rules}
use Rattle.layouts.proofs.listed_counts.Goals as goal

pub loop-i-init : goal.loop-i-init
loop-i-init c = (refl, refl)

pub overflow_sub-counts : goal.overflow_sub-counts
overflow_sub-counts c =
    let taken : 2 * c.loop-i.i < length c.args.s.now = omega arith in
    omega (arith, (number_at c.args.s.now c.loop-i.i c.requires.0 taken).0)

pub loop-i-preserved : goal.loop-i-preserved
loop-i-preserved c =
    let o = c.loop-i in
    let s = c.args.s.now in
    let taken : 2 * o.i < length s = omega arith in
    let count = listed_length s c.requires.0 in (
      search rules,
      ap (λ z. set z o.i (get_or s (2 * o.i) 0 - 48)) o.invariant.1
          ∙ lines_turn (numbers_in s) o.i (get_or s (2 * o.i) 0 - 48) (omega (arith, taken)) (omega (arith, c.requires.1)) (sym (number_at s o.i c.requires.0 taken).1),
    )

pub returns : goal.returns
returns c =
    let o = c.loop-i in
    let s = c.args.s.now in
    let count = listed_length s c.requires.0 in
    o.invariant.1 ∙ lines_done (numbers_in s) o.i (omega (arith, c.loop-i-test.false))
