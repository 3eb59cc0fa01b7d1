use mathlib.Core.Path.{ap}
use native.Mathlib.Omega.{arith}
use lib.ListN.{length}
use Rattle.rules.specs.Lists.{filled_to}
use Rattle.rules.specs.Values.{trimmed}
use Rattle.attributes.proofs.Laws.{given_read, not_given, fits_told, label_laid}
use Rattle.attributes.proofs.label_or.Goals as goal

pub put-requires : goal.put-requires
put-requires c =
    omega (arith, fits_told c.value-v.ensures c.trimmed-text.ensures c.requires.1)

pub overflow_cast-result : goal.overflow_cast-result
overflow_cast-result c =
    omega (arith, fits_told c.value-v.ensures c.trimmed-text.ensures c.requires.1)

pub returns-then-is_given : goal.returns-then-is_given
returns-then-is_given c =
    let a = c.args in (
      given_read (λ v. length (trimmed v)) _ a.found a.kept.used c.value-v.ensures c.is_blank.ensures c.is_given.ensures c.if-is_given.true (ap length c.trimmed-text.ensures),
      given_read (λ v. filled_to 64 0 (trimmed v)) _ a.found a.kept.bytes c.value-v.ensures c.is_blank.ensures c.is_given.ensures c.if-is_given.true
          (label_laid c.value-v.ensures c.trimmed-text.ensures c.requires.1 c.put.ensures),
    )

pub returns : goal.returns
returns c =
    let a = c.args in (
      not_given (λ v. length (trimmed v)) _ a.found a.kept.used c.value-v.ensures c.is_blank.ensures c.is_given.ensures c.if-is_given.false,
      not_given (λ v. filled_to 64 0 (trimmed v)) _ a.found a.kept.bytes c.value-v.ensures c.is_blank.ensures c.is_given.ensures c.if-is_given.false,
    )
