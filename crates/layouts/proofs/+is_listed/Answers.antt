use mathlib.Core.Path.{◌≡◌, sym, ap, ◌∙◌}
use mathlib.Core.Bool.{true, false}
use native.Mathlib.Omega.{arith}
use lib.ListN.{get_or}
use Rattle.octets.proofs.Parts.{rest}
use Rattle.rules.specs.Values.{one_to_six, listed}
use Rattle.layouts.proofs.Laws.{listed_none, listed_last, listed_on, listed_apart}
use borrow.Author.Rules.{rules}
use Rattle.layouts.proofs.+is_listed.Goals as goal

pub returns-in-len1 : goal.returns-in-len1
returns-in-len1 t c = c.one_to_six.ensures ∙ listed_last _ (omega arith)

pub returns-then-one_to_six : goal.returns-then-one_to_six
returns-then-one_to_six t c =
    let s = c.args.s.now in
    let comma : get_or s 1 0 ≡ 0x2C = search rules in
    let one : one_to_six (get_or s 0 0) ≡ true = sym c.one_to_six-in-44.ensures ∙ c.if-one_to_six.true in
    c.is_listed.ensures ∙ ap listed (rest s 2) ∙ rw one at (listed_on s (omega arith) comma)

pub returns-else-one_to_six : goal.returns-else-one_to_six
returns-else-one_to_six t c =
    let s = c.args.s.now in
    let comma : get_or s 1 0 ≡ 0x2C = search rules in
    let one : one_to_six (get_or s 0 0) ≡ false = sym c.one_to_six-in-44.ensures ∙ c.if-one_to_six.false in
    c.if-one_to_six.false ∙ rw one at (listed_on s (omega arith) comma)

pub returns-in_default : goal.returns-in_default
returns-in_default t c = listed_none _ (omega arith)

pub returns-in_default-2 : goal.returns-in_default-2
returns-in_default-2 t c = listed_apart _ (search rules) (search rules)
